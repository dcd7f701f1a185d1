-- The reader of models, by whether the bytes have the length of their n.
use Rattle.std.proofs.Common.{Ok, Err}
use Prim.Native.Nat.{ℕ, ◌+◌, ◌≤◌}
use mathlib.Core.Path.{◌≡◌, ap₂, ◌∙◌}
use mathlib.Core.Bool.{true, false}
use mathlib.Core.List.{List}
use borrow.Author.Tests.{eqb-true}
use lib.ListN.{length, take, drop}
use lib.Seq.{take_all}
use Rattle.body.specs.Bodies.{numbers_of, masks_of}
use Rattle.judge.specs.declared.models.Model.{Model}
use Rattle.outcome.specs.Refusals.{refusal, bad_model}
use Rattle.model_file.specs.Bytes.{model_length}
use Rattle.model_file.specs.Reads.{size_in, has_its_length, model_in, model_read}

module _ (E : ℕ) (bytes : List ℕ) where
  pub its_length : has_its_length E bytes ≡ true → length bytes ≡ model_length E (size_in bytes)
  unfolding has_its_length
  its_length h = eqb-true (length bytes) (model_length E (size_in bytes)) h

  pub read_said : has_its_length E bytes ≡ true → model_read E bytes ≡ Ok (model_in E bytes)
  unfolding model_read
  read_said h = rw h

  pub read_bad : has_its_length E bytes ≡ false → model_read E bytes ≡ Err (refusal bad_model 0)
  unfolding model_read
  read_bad h = rw h

  -- the parts of the model, by the numbers where they begin and end
  pub parts : {m : Model} {n k : ℕ} → k ≡ E → length (drop (1 + E) bytes) ≤ n →
      m ≡ record { size = size_in bytes; elements = numbers_of (take k (drop 1 bytes)); masks = masks_of (take n (drop (1 + E) bytes)) } → m ≡ model_in E bytes
  unfolding model_in
  parts {m} {n} {k} same all e =
      e ∙ ap₂ (λ a l. record { size = size_in bytes; elements = numbers_of (take a (drop 1 bytes)); masks = masks_of l }) same (take_all n (drop (1 + E) bytes) all)
