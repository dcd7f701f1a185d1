-- The elements that the terms go to where the rules are met: a name to its own, a witness to the one that its rule found.
use Prim.Native.Nat.{ℕ, zero, suc, ◌+◌, ◌≤◌, ◌<◌}
use mathlib.Core.Path.{◌≡◌, refl, sym, ap, ◌∙◌}
use mathlib.Core.Bool.{Bool}
use mathlib.Core.List.{List, [], ◌∷◌, ◌++◌, map}
use native.Mathlib.Omega.{arith}
use lib.ListN.{length, get_or, length-append, length-map}
use lib.Seq.{append_snoc, get_or_at}
use Rattle.theory.specs.Lists.{Every}
use Rattle.theory.specs.Rules.{Rule, OneTerm, EachTerm, OwnWitness, upward, own_witness}
use Rattle.theory.proofs.ListLaws.{every_append}
use Rattle.theory.proofs.RuleLaws.{upward_length, own_witnesses}
use Rattle.theory.proofs.ModelLaws.{MaskModel, RuleMet, RulesMet}

-- numbers below n, in a list
abbrev pub AllBelow : ℕ → List ℕ → Type 0
AllBelow n xs = Every (λ x. x < n) xs

-- the elements of the names 0, .. , E - 1
module _ (of : ℕ → ℕ) where
  pub named_below : (n E c : ℕ) → ((a : ℕ) → c ≤ a → a < c + E → of a < n) → AllBelow n (map of (upward E c))
  named_below n zero c h = tt
  named_below n (suc E) c h = (h c (omega arith) (omega arith), named_below n E (suc c) (λ a low high. h a (omega arith) (omega arith)))

  pub named_at : (E c i : ℕ) → i < E → get_or (map of (upward E c)) i 0 ≡ of (c + i)
  named_at zero c i h = absurd (omega arith)
  named_at (suc E) c zero h = ap of (omega arith)
  named_at (suc E) c (suc i) h = named_at E (suc c) i (omega arith) ∙ ap of (omega arith)

  pub named_length : (E : ℕ) → length (map of (upward E 0)) ≡ E
  named_length E = length-map (upward E 0) of ∙ upward_length E 0

-- the elements that the witnesses are
module _ {Test : Type 0} (fits : ℕ → (ℕ → Bool) → Test → Bool) (M : MaskModel) where
  abbrev pub found_by : (r : Rule Test) → RuleMet fits M r → List ℕ
  found_by (OneTerm a t) h = []
  found_by (EachTerm t) h = []
  found_by (OwnWitness t) h = h.0 ∷ []

  abbrev pub found : (rs : List (Rule Test)) → RulesMet fits M rs → List ℕ
  found [] h = []
  found (r ∷ rs) h = found_by r h.0 ++ found rs h.1

  pub found_length : (rs : List (Rule Test)) (h : RulesMet fits M rs) → length (found rs h) ≡ own_witnesses rs
  found_length [] h = refl
  found_length (r ∷ rs) h = length-append (found_by r h.0) (found rs h.1) ∙ omega (arith, one r h.0, found_length rs h.1)
    where
      one : (r : Rule Test) (h : RuleMet fits M r) → length (found_by r h) ≡ own_witness r
      one (OneTerm a t) h = refl
      one (EachTerm t) h = refl
      one (OwnWitness t) h = refl

  pub found_below : (rs : List (Rule Test)) (h : RulesMet fits M rs) → AllBelow M.size (found rs h)
  found_below [] h = tt
  found_below (r ∷ rs) h = every_append (λ x. x < M.size) (found_by r h.0) (found rs h.1) (one r h.0) (found_below rs h.1)
    where
      one : (r : Rule Test) (h : RuleMet fits M r) → AllBelow M.size (found_by r h)
      one (OneTerm a t) h = tt
      one (EachTerm t) h = tt
      one (OwnWitness t) h = (h.1, tt)

  -- in the elements of all terms, those of the witnesses stand from w on
  module _ (ps : List ℕ) where
    abbrev pub WitnessAt : ℕ → (r : Rule Test) → RuleMet fits M r → Type 0
    WitnessAt w (OneTerm a t) h = Unit {0}
    WitnessAt w (EachTerm t) h = Unit {0}
    WitnessAt w (OwnWitness t) h = get_or ps w 0 ≡ h.0

    abbrev pub WitnessesAt : ℕ → (rs : List (Rule Test)) → RulesMet fits M rs → Type 0
    WitnessesAt w [] h = Unit {0}
    WitnessesAt w (r ∷ rs) h = WitnessAt w r h.0 × WitnessesAt (w + own_witness r) rs h.1

    pub witnesses_at : (w : ℕ) (rs : List (Rule Test)) (h : RulesMet fits M rs) (front back : List ℕ) → length front ≡ w → ps ≡ front ++ (found rs h ++ back) → WitnessesAt w rs h
    witnesses_at w [] h front back e p = tt
    witnesses_at w (OneTerm a t ∷ rs) h front back e p = (tt, witnesses_at (w + 0) rs h.1 front back (omega arith) p)
    witnesses_at w (EachTerm t ∷ rs) h front back e p = (tt, witnesses_at (w + 0) rs h.1 front back (omega arith) p)
    witnesses_at w (OwnWitness t ∷ rs) h front back e p = (
      ap (λ x. get_or x w 0) p ∙ get_or_at front h.0.0 (found rs h.1 ++ back) 0 w e,
      witnesses_at (w + 1) rs h.1 (front ++ (h.0.0 ∷ [])) back (omega (arith, length-append front (h.0.0 ∷ []))) (p ∙ sym (append_snoc front h.0.0 (found rs h.1 ++ back))),
    )
