-- The terms of each class: at the start, with one term more placed, and how large the groups are.
use Prim.Native.Nat.{ℕ, suc, ◌+◌, ◌^◌, ◌≤◌, ◌<◌, max}
use mathlib.Core.Path.{◌≡◌, sym, ap, ◌∙◌}
use mathlib.Core.List.{List, [], ◌∷◌, ◌++◌}
use native.Mathlib.Omega.{arith}
use native.Mathlib.Decide.{ℕ_discrete}
use native.Mathlib.Numerals.{add-one}
use lib.Bits.{bit_or}
use lib.ListN.{length, get_or, take, set, length-set}
use lib.Seq.{get_or-set_same, get_or-set_other, length-take-le, take-suc}
use Rattle.question.specs.Limits.{max_terms}
use Rattle.theory.specs.Arrangements.{classes}
use Rattle.theory.proofs.ArrangementLaws.{classes_append}
use Rattle.cut.specs.Members.{members}
use Rattle.cut.proofs.MembersLaws.{members_below, members_last, members_other}
use Rattle.search.specs.Groups.{GroupsOf}
use Rattle.search.specs.Placings.{Placing}
use Rattle.search.proofs.PlacingLaws.{placed_length, next_taken}

-- one term more in the class c, behind the class numbers p
grown : (groups p : List ℕ) (c : ℕ) → length groups ≡ max_terms → c < max_terms → ((k : ℕ) → k < max_terms → get_or groups k 0 ≡ members p k) →
    (k : ℕ) → k < max_terms → get_or (set groups c (bit_or (get_or groups c 0) (2 ^ length p))) k 0 ≡ members (p ++ (c ∷ [])) k
grown groups p c long lt are k h = go (ℕ_discrete k c)
  where
    more : ℕ
    more = bit_or (get_or groups c 0) (2 ^ length p)

    go : Dec (k ≡ c) → get_or (set groups c more) k 0 ≡ members (p ++ (c ∷ [])) k
    go (yes e) = ap (λ i. get_or (set groups c more) i 0) e ∙ get_or-set_same groups c more 0 (omega arith) ∙ ap (λ g. bit_or g (2 ^ length p)) (are c lt) ∙ sym (members_last c p) ∙ ap (members (p ++ (c ∷ []))) (sym e)
    go (no ne) = get_or-set_other groups c k more 0 ne ∙ are k h ∙ sym (members_other k p c ne)

-- the next term of an arrangement
pub groups_more : (arrangement groups : List ℕ) (t : ℕ) → t < length arrangement → get_or arrangement t 0 < max_terms → GroupsOf arrangement t groups → (next : List ℕ) →
    next ≡ set groups (get_or arrangement t 0) (bit_or (get_or groups (get_or arrangement t 0) 0) (2 ^ t)) → GroupsOf arrangement (t + 1) next
groups_more arrangement groups t inside lt of next is = record {
  long = ap length is ∙ length-set groups (get_or arrangement t 0) _ ∙ of.long;
  are = λ k h. ap (λ l. get_or l k 0) (is ∙ ap (λ n. set groups c (bit_or (get_or groups c 0) (2 ^ n))) (sym (length-take-le t arrangement (omega arith))))
      ∙ grown groups (take t arrangement) c of.long lt of.are k h ∙ ap (λ p. members p k) (sym (ap (λ n. take n arrangement) (add-one t) ∙ take-suc arrangement t 0 inside));
}
  where
    c : ℕ
    c = get_or arrangement t 0

pub count_more : (arrangement : List ℕ) (t count : ℕ) → t < length arrangement → count ≡ classes (take t arrangement) → max count (get_or arrangement t 0 + 1) ≡ classes (take (t + 1) arrangement)
count_more arrangement t count inside e = ap (max count) (add-one c) ∙ ap (λ u. max u (suc c)) e ∙ sym (classes_append 0 (take t arrangement) (c ∷ [])) ∙ ap classes (sym (ap (λ n. take n arrangement) (add-one t) ∙ take-suc arrangement t 0 inside))
  where
    c : ℕ
    c = get_or arrangement t 0

-- a group has only terms that come before
pub group_small : (arrangement groups : List ℕ) (t : ℕ) → t ≤ length arrangement → GroupsOf arrangement t groups → (k : ℕ) → k < max_terms → get_or groups k 0 < 2 ^ t
group_small arrangement groups t le of k lt = omega (arith, of.are k lt, members_below k (take t arrangement), ap (λ n. 2 ^ n) (length-take-le t arrangement le))

module _ {arrangement groups : List ℕ} {placed used : ℕ} (here : Placing arrangement placed used) (of : GroupsOf arrangement placed groups) where
  -- a group has only terms that are placed
  pub group_below : (k : ℕ) → k < max_terms → get_or groups k 0 < 2 ^ placed
  group_below k lt = group_small arrangement groups placed (omega (arith, here.long, here.few_terms)) of k lt

  -- the next term in the class c
  pub groups_next : (c : ℕ) → placed < max_terms → c < max_terms → (next : List ℕ) → next ≡ set groups c (bit_or (get_or groups c 0) (2 ^ placed)) → GroupsOf (set arrangement placed c) (placed + 1) next
  groups_next c room lt next is = record {
    long = ap length is ∙ length-set groups c (bit_or (get_or groups c 0) (2 ^ placed)) ∙ of.long;
    are = λ k h. ap (λ l. get_or l k 0) (is ∙ ap (λ n. set groups c (bit_or (get_or groups c 0) (2 ^ n))) (sym (placed_length here)))
        ∙ grown groups (take placed arrangement) c of.long lt of.are k h ∙ ap (λ p. members p k) (sym (next_taken here c room));
  }
