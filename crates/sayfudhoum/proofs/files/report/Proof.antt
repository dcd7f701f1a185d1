-- `report` writes field 44 at the front, and 7F into the rest of the buffer: a run of writes.
use Rattle.std.proofs.Common.{Ok, Err}
use Prim.Native.Nat.{◌+◌, ◌-◌, ◌/◌, ◌%◌, ◌≤◌}
use mathlib.Core.Path.{◌≡◌, sym, ap, subst, ◌∙◌}
use mathlib.Core.List.{[], ◌∷◌}
use native.Mathlib.Omega.{arith}
use borrow.Author.Rules.{rules}
use lib.ListN.{length, take, drop, length-take, length-drop}
use Rattle.outcome.proofs.OverLaws.{Run, run_first, run_room, run_on, run_end}
use Rattle.outcome.proofs.WriteLaws.{too_short}
use Rattle.outcome.proofs.WriteLaws.{fits as fits_whole}
use Rattle.field.specs.Heads.{field_bytes, end_bytes}
use Rattle.field.proofs.WriteLaws.{written}
use Rattle.sayfudhoum.specs.Files.{report_bytes}
use Rattle.sayfudhoum.proofs.FileLaws.{report_body, report_length, report_sized}
use Rattle.sayfudhoum.proofs.files.report.Statement.{statement}
use Rattle.sayfudhoum.proofs.files.report.Tie as tie

-- the table says that it has nine bytes
nine : (c : tie.After-field_length-2) → c.field_length.result + c.field_length-2.result ≡ 9
nine c = omega (arith, c.field_length.ensures, c.field_length-2.ensures, report_sized)

returns : tie.Need-returns-then-buf-length
returns c =
    let a = c.args in
    let short = too_short (report_bytes a.refusal) a.buf.now (omega (arith, report_length a.refusal, nine c.before.before, c.if-buf-length.true)) in
    (ap Err c.new.ensures ∙ sym short.0, sym short.1)

-- there is room for nine
room : (c : tie.After-put_field-arg-2-1) → 9 ≤ length c.args.buf.now
room c = omega (arith, nine c.before.before.before.before.before.before.before.before.before, c.if-buf-length.false)

-- field 44 is written
begun : (c : tie.After-put_field-arg-2-1) → let p = c.put_field-first in let a = c.args in
    Run (report_bytes a.refusal) a.buf.now end_bytes p.new.buf p.result
begun c =
    let p = c.put_field-first in
    let a = c.args in
    let body = a.refusal.number ∷ a.refusal.place / 256 % 256 ∷ a.refusal.place % 256 ∷ [] in
    let whole = written 0x44 body a.buf.now (omega arith) (omega (arith, room c)) in
    subst (λ l. Run l a.buf.now end_bytes p.new.buf p.result) (sym (report_body a.refusal)) (run_first (field_bytes 0x44 body) end_bytes (p.ensures.0 ∙ whole.0) (p.ensures.1 ∙ whole.1))

-- 7F fits behind it
fits : (c : tie.After-put_field-arg-2-1) → let p = c.put_field-first in let a = c.args in
    (length p.new.buf ≡ length a.buf.now) × (p.result + 3 ≤ length p.new.buf)
fits c =
    let a = c.args in
    let r = run_room (begun c) (omega (arith, room c, report_length a.refusal)) in
    (r.0, omega (arith, r.0, r.1, room c, report_length a.refusal))

returns-2 : tie.Need-returns
returns-2 c =
    let f = c.put_field-first in
    let a = c.args in
    let buf = f.new.buf in
    let part = take (length buf - f.result) (drop f.result buf) in
    let behind : 3 ≤ length part = simp (length-take, length-drop) (omega (arith, (fits c.before.before.before.before.before).1)) in
    let all = (run_end (run_on end_bytes [] c.put_field.new.buf (begun c.before.before.before.before.before) (c.put_field.ensures.1 ∙ (written 0x7f [] part (omega arith) (omega arith)).1))).1 in
    let whole = fits_whole (report_bytes a.refusal) a.buf.now (omega (arith, room c.before.before.before.before.before, report_length a.refusal)) in
    (ap Ok (nine c.before.before.before.before.before.before.before.before.before.before.before.before.before.before ∙ sym (report_length a.refusal)) ∙ sym whole.0, all ∙ sym whole.1)

pub report_spec : {M : Type 1} → statement M
report_spec =
    tie.close
    (tie.spec
    (λ c κs. search rules)
    (λ c κs. search rules)
    (λ c. omega (arith, nine c))
    (λ c κs. search rules)
    returns
    (λ c. search rules)
    (λ c. search rules)
    (λ c. search rules)
    (λ c κs. search rules)
    (λ c. omega (arith, (fits c.before).1))
    (λ c. omega (arith, (fits c.before).1))
    (λ c. search rules)
    (λ c κs. search rules)
    (λ c. search rules)
    returns-2)
