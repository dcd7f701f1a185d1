-- The lines with their ends, as the library cuts them off: each goes to its first 0A, or to the end of the data.
use Rattle.std.proofs.Common.{◌≡◌, ℕ, suc, ◌+◌, ◌-◌, ◌<◌, min, Bool, true, false, eqb, List, [], ◌∷◌, ◌++◌, length, get_or, take, drop, Option, Some, refl, sym, ap, subst, ◌∙◌, arith}
use borrow.Author.Tests.{eqb-true}
use mathlib.Core.Path.{ap₂}
use lib.ListN.{length-append, get_or-append, drop_of_length-le}
use lib.Seq.{append_snoc, drop-cons}
use native.Mathlib.Decide.{dec_lt}
use denote.Param.Members.{Mut}
use denote.Ref.{Bor}
use Rattle.std.proofs.lemmas.List.{take-append-drop}
use Rattle.std.proofs.lemmas.Slice.Eq.{bytes_eq-Decides}
use Rattle.std.proofs.lemmas.Bool.{false≢true}
use Rattle.std.specs.Fn.{Called, ComputesKey, ReturnsEach}
use Rattle.std.specs.Option.{MatchOption}
use Rattle.std.specs.Iterator.{Yields}
use Rattle.std.specs.List.{IsFirstMatchOrLen}
use Rattle.std.specs.Slice.Iter.{split_inclusive_rest, split_inclusive_callee}
use Rattle.std.specs.declared.slice.SplitInclusive.{SplitInclusive}
use Rattle.std.specs.Prelude.{bytes_eq}
use Rattle.text.specs.Pieces.{until, Free}

module _ {F : Type 0} (g : Mut F (Bor ℕ × Unit {0}) Bool) (p : ℕ → Bool) where
  -- the steps of `split_inclusive`
  abbrev pub cuts : SplitInclusive ℕ F → Option (Bor (List ℕ)) → SplitInclusive ℕ F → Type 0
  cuts s r t = MatchOption r ((length (split_inclusive_rest s) ≡ 0) × (t ≡ s))
      (λ x. (split_inclusive_rest s ≡ x.now ++ split_inclusive_rest t)
      × ((i : ℕ) × (length x.now ≡ min (i + 1) (length (split_inclusive_rest s))) × ((q : ℕ → Bool) → ComputesKey g q (split_inclusive_callee s) → ComputesKey g q (split_inclusive_callee t) × IsFirstMatchOrLen q (split_inclusive_rest s) i))
      × (0 < length (split_inclusive_rest s)))

  -- a closure that changes nothing and answers what p does
  computes : (f : F) → ((x : Bor ℕ × Unit {0}) (b : Bool) (q : F) → Called g f x b q → (q ≡ f) × (b ≡ p x.0.now)) → ComputesKey g p f
  computes f h = record { at = go }
    where
      go : (xs : List (Bor ℕ × Unit {0})) → ReturnsEach g (λ a r. r ≡ p a.0.now) f xs
      go [] = tt
      go (x ∷ xs) = λ r q c. let k = h x r q c in (k.1, subst (λ e. ReturnsEach g (λ a r. r ≡ p a.0.now) e xs) (sym k.0) (go xs))

  -- it does so wherever the steps lead
  computes_after : (s : SplitInclusive ℕ F) (xs : List (Bor (List ℕ))) (t : SplitInclusive ℕ F) → Yields cuts s xs t → ComputesKey g p (split_inclusive_callee s) → ComputesKey g p (split_inclusive_callee t)
  computes_after s [] t y h = subst (λ u. ComputesKey g p (split_inclusive_callee u)) y h
  computes_after s (x ∷ xs) t y h = computes_after y.0 xs t y.2 (y.1.1.2 p h).0

-- the first line of what is left with its end, and what follows it
module _ (sep : ℕ) where
  pub record IsCut (rest line tail : List ℕ) (i : ℕ) : Type 0 where
    pub whole : rest ≡ line ++ tail
    pub long : length line ≡ min (i + 1) (length rest)
    pub first : IsFirstMatchOrLen (λ b. eqb b sep) rest i
    pub some : 0 < length rest

  free_within : (xs : List ℕ) → ((k : ℕ) → k < length xs → eqb (get_or xs k 0) sep ≡ false) → Free sep xs
  unfolding until
  free_within [] h = refl
  free_within (x ∷ xs) h = rw (h 0 (omega arith)) (ap (λ l. x ∷ l) (free_within xs (λ k l. h (suc k) (omega arith))))

  -- a line that ends with the separator
  pub cut_ended : {rest line tail : List ℕ} {i : ℕ} → IsCut rest line tail i → (text : List ℕ) → text ≡ take (length line - 1) line → bytes_eq (drop (length line - 1) line) (sep ∷ []) ≡ true →
      (rest ≡ text ++ (sep ∷ tail)) × Free sep text × (length line ≡ suc (length text))
  cut_ended {rest = rest} {line = line} {tail = tail} c text t e =
      let end : drop (length line - 1) line ≡ sep ∷ [] = (bytes_eq-Decides (drop (length line - 1) line) (sep ∷ [])).0 e in
      let halves : line ≡ text ++ (sep ∷ []) = sym (take-append-drop (length line - 1) line) ∙ ap₂ (λ a b. a ++ b) (sym t) end in
      let all : rest ≡ text ++ (sep ∷ tail) = c.whole ∙ ap (λ l. l ++ tail) halves ∙ append_snoc text sep tail in
      let short : length line ≡ suc (length text) = omega (arith, ap length halves, length-append text (sep ∷ [])) in
      (all, free_within text (λ k less. ap (λ b. eqb b sep) (sym (ap (λ l. get_or l k 0) all ∙ get_or-append text (sep ∷ tail) 0 k less)) ∙ c.first.0 k 0 (omega arith) (omega (arith, c.long))), short)

  -- one that doesn't has all that is left
  pub cut_open : {rest line tail : List ℕ} {i : ℕ} → IsCut rest line tail i → bytes_eq (drop (length line - 1) line) (sep ∷ []) ≡ false → Free sep rest
  cut_open {rest = rest} {line = line} {tail = tail} {i = i} c e = go (dec_lt i (length rest))
    where
      go : Dec (i < length rest) → Free sep rest
      go (no q) = free_within rest (λ k less. c.first.0 k 0 (omega arith) (omega arith))
      go (yes q) =
          let one : length line - 1 ≡ i = omega (arith, c.long) in
          let byte : get_or line i 0 ≡ sep = sym (get_or-append line tail 0 i (omega (arith, c.long))) ∙ ap (λ l. get_or l i 0) (sym c.whole) ∙ eqb-true (get_or rest i 0) sep (c.first.1 q 0) in
          let end : drop (length line - 1) line ≡ sep ∷ [] = ap (λ n. drop n line) one ∙ drop-cons line i 0 (omega (arith, c.long)) ∙ ap₂ (λ b l. b ∷ l) byte (drop_of_length-le line {i = suc i} (omega (arith, c.long))) in
          absurd (false≢true (sym e ∙ (bytes_eq-Decides (drop (length line - 1) line) (sep ∷ [])).1 end))

-- each turn of the loop gives such a line
pub turn : {F : Type 0} (g : Mut F (Bor ℕ × Unit {0}) Bool) (sep : ℕ) (s t u : SplitInclusive ℕ F) (xs : List (Bor (List ℕ))) (x : Bor (List ℕ)) → Yields (cuts g (λ b. eqb b sep)) s xs t →
    ((x : Bor ℕ × Unit {0}) (b : Bool) (q : F) → Called g (split_inclusive_callee s) x b q → (q ≡ split_inclusive_callee s) × (b ≡ eqb x.0.now sep)) →
    (step : cuts g (λ b. eqb b sep) t (Some x) u) → IsCut sep (split_inclusive_rest t) x.now (split_inclusive_rest u) step.1.0
turn g sep s t u xs x y h step =
    let p : ℕ → Bool = λ b. eqb b sep in
    let k = computes_after g p s xs t y (computes g p (split_inclusive_callee s) h) in
    record { whole = step.0; long = step.1.1; first = (step.1.2 p k).1; some = step.2 }
