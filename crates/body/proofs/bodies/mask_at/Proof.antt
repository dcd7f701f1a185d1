-- `mask_at` reads the bytes of one mask as a number, which is below 256 to the number of these bytes.
use Prim.Native.Nat.{◌+◌, ◌-◌, ◌^◌, ◌<◌}
use mathlib.Core.Path.{◌≡◌, ap, ◌∙◌}
use native.Mathlib.Omega.{arith}
use borrow.Author.Rules.{rules}
use lib.ListN.{length, take, drop, length-take, length-drop}
use lib.Seq.{length-take-le, take_all}
use Rattle.number.specs.Numbers.{most_bytes, number_in}
use Rattle.number.proofs.NumberLaws.{number_below, bytes_take, bytes_drop}
use Rattle.body.specs.Bodies.{mask_bytes}
use Rattle.body.proofs.bodies.mask_at.Statement.{statement}
use Rattle.body.proofs.bodies.mask_at.Tie as tie

returns : tie.Need-returns
returns c =
    let a = c.args in
    let rest = drop a.at a.body.now in
    let few : a.at + mask_bytes - a.at ≡ mask_bytes = omega arith in
    c.number_in.ensures
    ∙ ap number_in (take_all most_bytes (take (a.at + mask_bytes - a.at) rest) (omega (arith, length-take (a.at + mask_bytes - a.at) rest)))
    ∙ ap (λ i. number_in (take i rest)) few

small : (c : tie.After-number_in) → c.number_in.result < 256 ^ mask_bytes
small c =
    let rest = drop c.args.at c.args.body.now in
    let size : length (take mask_bytes rest) ≡ mask_bytes = length-take-le mask_bytes rest (simp length-drop (omega (arith, c.requires))) in
    let below = number_below (take mask_bytes rest) (bytes_take mask_bytes rest (bytes_drop c.args.at c.args.body.now (λ i less. omega (arith, c.shared_slice_known-1.given i)))) in
    rw (returns c) (rw size at below)

pub mask_at_spec : {M : Type 1} → statement M
mask_at_spec =
    tie.close (tie.spec (λ c. search rules) (λ c. search rules) (λ c. search rules) (λ c. search rules) (λ c κs. search rules) (λ c. omega (arith, small c)) returns)
