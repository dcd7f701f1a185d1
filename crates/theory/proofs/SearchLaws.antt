-- What the searches find: the first number, or the first arrangement, that has a value, and nothing only where none has one.
use Prim.Native.Nat.{ℕ, zero, suc, ◌+◌, ◌≤◌, ◌<◌, max}
use mathlib.Core.Path.{◌≡◌, refl, sym, ap, subst, ◌∙◌}
use mathlib.Core.Bool.{Bool, true, false, cond, true≢false}
use mathlib.Core.List.{List, [], ◌∷◌}
use mathlib.Core.Option.{Option, none, some, map, none-ne-some, some-ne-none}
use mathlib.Core.Logic.{inl, inr}
use native.Mathlib.Omega.{arith}
use native.Mathlib.Decide.{dec_le, dec_lt}
use lib.ListN.{length, get_or}
use Rattle.theory.specs.Arrangements.{MayFollow, Before}
use Rattle.theory.specs.Searches.{first_from, first_placing, each_from, first_passing}

-- the first of the numbers c, c + 1, .. , n of them, that has a value; it has the value a
pub record FirstNumber {A : Type 0} (n c : ℕ) (test : ℕ → Option A) (a : A) : Type 0 where
  pub at : ℕ
  pub low : c ≤ at
  pub high : at < c + n
  pub gives : test at ≡ some a
  pub none_before : (d : ℕ) → c ≤ d → d < at → test d ≡ none

-- the first way to place so many terms more that has a value; it has the value a
pub record FirstPlaced {A : Type 0} (left used : ℕ) (test : List ℕ → Option A) (a : A) : Type 0 where
  pub at : List ℕ
  pub follows : MayFollow used at
  pub long : length at ≡ left
  pub gives : test at ≡ some a
  pub none_before : (l : List ℕ) → MayFollow used l → length l ≡ left → Before l at → test l ≡ none

module _ {A : Type 0} where
  abbrev pub FirstNumberIs : ℕ → ℕ → (ℕ → Option A) → Option A → Type 0
  FirstNumberIs n c test none = (d : ℕ) → c ≤ d → d < c + n → test d ≡ none
  FirstNumberIs n c test (some a) = FirstNumber n c test a

  pub first_from_is : (n c : ℕ) (test : ℕ → Option A) → FirstNumberIs n c test (first_from n c test)
  unfolding first_from
  first_from_is zero c test = λ d low high. absurd (omega arith)
  first_from_is (suc n) c test = go (test c) refl (first_from n (suc c) test) (first_from_is n (suc c) test)
    where
      here : test c ≡ none → (d : ℕ) → c ≤ d → Dec (d ≤ c) → (suc c ≤ d → test d ≡ none) → test d ≡ none
      here p d low (yes q) later = let e : d ≡ c = omega arith in rw e p
      here p d low (no q) later = later (omega arith)

      go : (o : Option A) → test c ≡ o → (r : Option A) → FirstNumberIs n (suc c) test r → FirstNumberIs (suc n) c test (elim o [ none ↦ r | some a ↦ some a ])
      go none p none h = λ d low high. here p d low (dec_le d c) (λ l. h d l (omega arith))
      go none p (some a) h = record { at = h.at; low = omega arith; high = omega arith; gives = h.gives; none_before = λ d low high. here p d low (dec_le d c) (λ l. h.none_before d l high) }
      go (some a) p r h = record { at = c; low = omega arith; high = omega arith; gives = p; none_before = λ d low high. absurd (omega arith) }

  abbrev pub FirstPlacedIs : ℕ → ℕ → (List ℕ → Option A) → Option A → Type 0
  FirstPlacedIs left used test none = (l : List ℕ) → MayFollow used l → length l ≡ left → test l ≡ none
  FirstPlacedIs left used test (some a) = FirstPlaced left used test a

no_terms : (l : List ℕ) → length l ≡ 0 → l ≡ []
no_terms [] e = refl
no_terms (c ∷ l) e = absurd (omega arith)

-- one term more: what is known of the rest behind each class number gives the whole
module _ {A : Type 0} (left used : ℕ) (test : List ℕ → Option A) where
  -- the test, and the search, behind a next term of class c
  abbrev behind : ℕ → List ℕ → Option A
  behind c l = test (c ∷ l)

  abbrev search_behind : ℕ → Option A
  search_behind c = first_placing left (max used (suc c)) (behind c)

  abbrev BehindIs : ℕ → Option A → Type 0
  BehindIs c = FirstPlacedIs left (max used (suc c)) (behind c)

  module _ (known : (c : ℕ) → BehindIs c (search_behind c)) where
    nothing_behind : (c : ℕ) → search_behind c ≡ none → (l : List ℕ) → MayFollow (max used (suc c)) l → length l ≡ left → test (c ∷ l) ≡ none
    nothing_behind c e = subst (BehindIs c) e (known c)

    nothing : FirstNumberIs (suc used) 0 search_behind none → (l : List ℕ) → MayFollow used l → length l ≡ suc left → test l ≡ none
    nothing h [] f e = absurd (omega arith)
    nothing h (c ∷ l) f e = nothing_behind c (h c (omega arith) (omega (arith, f.0))) l f.1 (omega arith)

    module _ (a : A) (first : FirstNumber (suc used) 0 search_behind a) (rest : FirstPlaced left (max used (suc first.at)) (behind first.at) a) where
      none_earlier : (l : List ℕ) → MayFollow used l → length l ≡ suc left → Before l (first.at ∷ rest.at) → test l ≡ none
      none_earlier [] f e b = absurd (omega arith)
      none_earlier (c ∷ l) f e (inl lt) = nothing_behind c (first.none_before c (omega arith) lt) l f.1 (omega arith)
      none_earlier (c ∷ l) f e (inr b) = rw b.0 (rest.none_before l (subst (λ x. MayFollow (max used (suc x)) l) b.0 f.1) (omega arith) b.1)

      found : FirstPlaced (suc left) used test a
      found = record {
        at = first.at ∷ rest.at;
        follows = (omega (arith, first.high), rest.follows);
        long = ap suc rest.long;
        gives = rest.gives;
        none_before = none_earlier;
      }

    placed_more : (o : Option A) → FirstNumberIs (suc used) 0 search_behind o → FirstPlacedIs (suc left) used test o
    placed_more none h = nothing h
    placed_more (some a) h = found a h (subst (BehindIs h.at) h.gives (known h.at))

module _ {A : Type 0} where
  pub first_placing_is : (left used : ℕ) (test : List ℕ → Option A) → FirstPlacedIs left used test (first_placing left used test)
  unfolding first_placing
  first_placing_is zero used test = go (test []) refl
    where
      go : (o : Option A) → test [] ≡ o → FirstPlacedIs 0 used test o
      go none p = λ l f e. rw (no_terms l e) p
      go (some a) p = record { at = []; follows = tt; long = refl; gives = p; none_before = λ l f e b. absurd (subst (λ x. Before x []) (no_terms l e) b) }
  first_placing_is (suc left) used test =
      placed_more left used test (λ c. first_placing_is left (max used (suc c)) (behind left used test c)) (first_from (suc used) 0 (search_behind left used test)) (first_from_is (suc used) 0 (search_behind left used test))

  -- where nothing that may follow has a value, nothing is found
  pub first_placing_none : (left used : ℕ) (test : List ℕ → Option A) → ((l : List ℕ) → MayFollow used l → length l ≡ left → test l ≡ none) → first_placing left used test ≡ none
  first_placing_none left used test h = go (first_placing left used test) (first_placing_is left used test)
    where
      go : (o : Option A) → FirstPlacedIs left used test o → o ≡ none
      go none p = refl
      go (some a) p = absurd (none-ne-some a (sym (h p.at p.follows p.long) ∙ p.gives))

  -- a value for each of the numbers c, c + 1, .. , n of them, or a number without one
  abbrev pub EachIs : ℕ → ℕ → (ℕ → Option A) → A → Option (List A) → Type 0
  EachIs n c test z none = (d : ℕ) × (c ≤ d) × (d < c + n) × (test d ≡ none)
  EachIs n c test z (some l) = (length l ≡ n) × ((i : ℕ) → i < n → test (c + i) ≡ some (get_or l i z))

  pub each_from_is : (n c : ℕ) (test : ℕ → Option A) (z : A) → EachIs n c test z (each_from n c test)
  unfolding each_from
  each_from_is zero c test z = (refl, λ i h. absurd (omega arith))
  each_from_is (suc n) c test z = go (test c) refl (each_from n (suc c) test) (each_from_is n (suc c) test z)
    where
      at : (a : A) → test c ≡ some a → (l : List A) → ((i : ℕ) → i < n → test (suc c + i) ≡ some (get_or l i z)) → (i : ℕ) → i < suc n → test (c + i) ≡ some (get_or (a ∷ l) i z)
      at a p l h zero lt = ap test (omega arith) ∙ p
      at a p l h (suc i) lt = ap test (omega arith) ∙ h i (omega arith)

      go : (o : Option A) → test c ≡ o → (r : Option (List A)) → EachIs n (suc c) test z r → EachIs (suc n) c test z (elim o [ none ↦ none | some a ↦ map (λ l. a ∷ l) r ])
      go none p r h = (c, omega arith, omega arith, p)
      go (some a) p none h = (h.0, omega arith, omega arith, h.3)
      go (some a) p (some l) h = (ap suc h.0, at a p l h.1)

module _ (bound : ℕ) (passes : ℕ → Bool) where
  -- the smallest number below the bound that passes, or none does
  abbrev pub SmallestIs : Option ℕ → Type 0
  SmallestIs none = (m : ℕ) → m < bound → passes m ≡ false
  SmallestIs (some m) = (m < bound) × (passes m ≡ true) × ((w : ℕ) → w < m → passes w ≡ false)

  pub first_passing_is : SmallestIs (first_passing bound passes)
  unfolding first_passing
  first_passing_is = go (first_from bound 0 try) (first_from_is bound 0 try)
    where
      try : ℕ → Option ℕ
      try m = cond (passes m) (some m) none

      failed : (m : ℕ) (b : Bool) → cond b (some m) none ≡ none → b ≡ false
      failed m true e = absurd (some-ne-none m e)
      failed m false e = refl

      passed : (m a : ℕ) (b : Bool) → cond b (some m) none ≡ some a → (b ≡ true) × (m ≡ a)
      passed m a true e = (refl, cc)
      passed m a false e = absurd (none-ne-some a e)

      go : (o : Option ℕ) → FirstNumberIs bound 0 try o → SmallestIs o
      go none h = λ m lt. failed m (passes m) (h m (omega arith) (omega arith))
      go (some m) h =
          let p = passed h.at m (passes h.at) h.gives in
          let e : h.at ≡ m = p.1 in
          (omega arith, subst (λ i. passes i ≡ true) e p.0, λ w lt. failed w (passes w) (h.none_before w (omega arith) (omega arith)))

  one_smallest : (o p : Option ℕ) → SmallestIs o → SmallestIs p → o ≡ p
  one_smallest none none h k = refl
  one_smallest none (some m) h k = absurd (true≢false (sym k.1 ∙ h m k.0))
  one_smallest (some m) none h k = absurd (true≢false (sym h.1 ∙ k m h.0))
  one_smallest (some m) (some w) h k = go (dec_lt m w) (dec_lt w m)
    where
      go : Dec (m < w) → Dec (w < m) → some m ≡ some w
      go (yes lt) d = absurd (true≢false (sym h.1 ∙ k.2 m lt))
      go (no ge) (yes lt) = absurd (true≢false (sym k.1 ∙ h.2 w lt))
      go (no ge) (no le) = ap some (omega arith)

  -- what is the smallest is found
  pub first_passing_one : (o : Option ℕ) → SmallestIs o → first_passing bound passes ≡ o
  first_passing_one o h = one_smallest (first_passing bound passes) o first_passing_is h
