-- `put_file` writes field 40, the class numbers and masks behind it, and 7F behind them: a run of writes.
use Rattle.std.proofs.Common.{ℕ, ◌≡◌, ◌≤◌, ◌+◌, ◌-◌, List, [], ◌∷◌, ◌++◌, length, take, drop, sym, ap, ◌∙◌, arith}
use Rattle.std.proofs.Math.Option.{Option}
use Rattle.std.proofs.lemmas.List.{length-append, length-take, length-drop}
use borrow.Rule.Slice.PartMut.{put_mid}
use Rattle.outcome.specs.Verdicts.{verdict_byte}
use Rattle.outcome.specs.Writes.{over}
use Rattle.outcome.proofs.OverLaws.{Run, run_first, run_room, run_on, run_end}
use Rattle.theory.specs.Solutions.{Solution}
use Rattle.field.specs.Heads.{end_bytes}
use Rattle.field.specs.Writes.{field_count, field_over}
use Rattle.field.proofs.WriteLaws.{written}
use Rattle.answer.specs.Answers.{said, verdict_of}
use Rattle.answer.specs.Bytes.{verdict_bytes, model_bytes, file_of}
use Rattle.answer.proofs.AnswerLaws.{said_verdict}
use Rattle.answer.proofs.writes.Counted.put_file.Goals as goal

-- so many bytes of the verdict are written, and `buf` is the buffer
module _ (told : Option Solution) (old : List ℕ) (room : length (file_of told) ≤ length old) (byte at : ℕ) (buf : List ℕ) (b : byte ≡ verdict_byte (verdict_of told))
    (put : (at ≡ field_count (byte ∷ []) (length old)) × (buf ≡ field_over 0x40 (byte ∷ []) old)) where
  begun : Run (file_of told) old (model_bytes told ++ end_bytes) buf at
  unfolding file_of
  begun =
      let whole = written 0x40 (verdict_byte (verdict_of told) ∷ []) old (omega arith) (omega arith) in
      run_first (verdict_bytes (verdict_of told)) (model_bytes told ++ end_bytes) (put.0 ∙ ap (λ x. field_count (x ∷ []) (length old)) b ∙ whole.0) (put.1 ∙ ap (λ x. field_over 0x40 (x ∷ []) old) b ∙ whole.1)

  -- what follows fits behind it
  first_fits : (length buf ≡ length old) × (at + (length (model_bytes told) + 3) ≤ length buf)
  first_fits =
      let r = run_room begun room in
      (r.0, omega (arith, r.0, r.1, length-append (model_bytes told) end_bytes))

  -- all but 7F is written
  module _ (more : ℕ) (part : List ℕ) (model : (more ≡ length (model_bytes told)) × (part ≡ over (model_bytes told) (take (length buf - at) (drop at buf)))) where
    most : Run (file_of told) old end_bytes (put_mid at (length buf - at) buf part) (at + more)
    most = rw model.0 (run_on (model_bytes told) end_bytes part begun model.1)

    -- 7F fits behind it
    last_fits : (length (put_mid at (length buf - at) buf part) ≡ length old) × (at + more + 3 ≤ length (put_mid at (length buf - at) buf part))
    last_fits =
        let r = run_room most room in
        (r.0, omega (arith, r.0, r.1))

pub slice_bounds-put_model-count : goal.slice_bounds-put_model-count
slice_bounds-put_model-count c =
    let s = c.args.self in
    let byte = c.from.ensures ∙ ap verdict_byte (sym (said_verdict s.terms s.answer)) in
    omega (arith, (first_fits (said s.terms s.answer) c.args.buf.now c.requires _ _ _ byte c.put_field-first.ensures).1)

pub slice_bounds-put_model-start : goal.slice_bounds-put_model-start
slice_bounds-put_model-start c =
    let s = c.args.self in
    let byte = c.from.ensures ∙ ap verdict_byte (sym (said_verdict s.terms s.answer)) in
    omega (arith, (first_fits (said s.terms s.answer) c.args.buf.now c.requires _ _ _ byte c.put_field-first.ensures).1)

pub put_model-middle-requires : goal.put_model-middle-requires
put_model-middle-requires c =
    let s = c.args.self in
    let byte = c.from.ensures ∙ ap verdict_byte (sym (said_verdict s.terms s.answer)) in
    simp (length-take, length-drop) (omega (arith, (first_fits (said s.terms s.answer) c.args.buf.now c.requires _ _ _ byte c.put_field-first.ensures).1))

pub slice_bounds-put_field-count : goal.slice_bounds-put_field-count
slice_bounds-put_field-count c =
    let s = c.args.self in
    let byte = c.from.ensures ∙ ap verdict_byte (sym (said_verdict s.terms s.answer)) in
    omega (arith, (last_fits (said s.terms s.answer) c.args.buf.now c.requires _ _ _ byte c.put_field-first.ensures _ _ c.put_model-middle.ensures).1)

pub slice_bounds-put_field-start : goal.slice_bounds-put_field-start
slice_bounds-put_field-start c =
    let s = c.args.self in
    let byte = c.from.ensures ∙ ap verdict_byte (sym (said_verdict s.terms s.answer)) in
    omega (arith, (last_fits (said s.terms s.answer) c.args.buf.now c.requires _ _ _ byte c.put_field-first.ensures _ _ c.put_model-middle.ensures).1)

pub returns : goal.returns
returns c =
    let s = c.args.self in
    let f = c.put_field-first in
    let m = c.put_model-middle in
    let byte = c.from.ensures ∙ ap verdict_byte (sym (said_verdict s.terms s.answer)) in
    let told = said s.terms s.answer in
    let old = c.args.buf.now in
    let buf = put_mid f.result (length f.new.buf - f.result) f.new.buf m.new.buf in
    let at = f.result + m.result in
    let part = take (length buf - at) (drop at buf) in
    let fits = last_fits told old c.requires _ _ _ byte f.ensures _ _ m.ensures in
    let room : 3 ≤ length part = simp (length-take, length-drop) (omega (arith, fits.1)) in
    (run_end (run_on end_bytes [] c.put_field.new.buf (most told old c.requires _ _ _ byte f.ensures _ _ m.ensures) (c.put_field.ensures.1 ∙ (written 0x7f [] part (omega arith) room).1))).1
