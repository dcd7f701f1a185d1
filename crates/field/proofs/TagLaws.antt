-- The table's rule, by which a tag's own entry says all; the lengths that an entry allows; and what holds of each entry that a file knows.
use Rattle.std.proofs.Common.{Option, Some, None}
use Rattle.std.specs.Option.{option_and_then}
use Rattle.std.specs.List.{find}
use Prim.Native.Nat.{ℕ}
use mathlib.Core.Path.{◌≡◌, refl, sym, ap, subst, ◌∙◌}
use mathlib.Core.Bool.{Bool, true, false, not, ◌&&◌, ◌||◌, cond}
use mathlib.Core.List.{List, [], ◌∷◌}
use borrow.Author.Tests.{eqb-true, eq-eqb}
use lib.Dec.{eqb}
use Rattle.field.specs.declared.tags.File.{File}
use Rattle.field.specs.declared.tags.BodyLength.{BodyLength}
use Rattle.field.specs.declared.tags.BodyLength.TheVariants.{Fixed, Depends}
use Rattle.field.specs.declared.tags.Entry.{Entry}
use Rattle.field.specs.Tags.{field_table, knows, known_of, length_in, length_of, is_known, is_allowed}
use Rattle.outcome.proofs.Never.{never}

-- the entry of a tag, if it is listed; for a tag that is written out it computes
abbrev entry_in : List Entry → ℕ → Option Entry
entry_in t tag = find (λ e. eqb e.0 tag) t

abbrev pub entry_of : ℕ → Option Entry
entry_of tag = entry_in field_table tag

-- the table's rule: the files in which a tag's entry stands look up its length, and others do not know the tag
pub rule_in : (file : File) (tag : ℕ) (t : List Entry) → length_in file t tag ≡ option_and_then (known_of file) (entry_in t tag)
unfolding length_in
rule_in file tag [] = refl
rule_in file tag (e ∷ es) = go (eqb e.0 tag) (rule_in file tag es)
  where
    go : (b : Bool) → length_in file es tag ≡ option_and_then (known_of file) (entry_in es tag) →
        cond b (known_of file e) (length_in file es tag) ≡ option_and_then (known_of file) (cond b (Some e) (entry_in es tag))
    go true rest = refl
    go false rest = rest

pub rule : (file : File) (tag : ℕ) → length_of file tag ≡ option_and_then (known_of file) (entry_of tag)
rule file tag = rule_in file tag field_table

-- no tag is listed twice
abbrev is_listed : List Entry → ℕ → Bool
is_listed [] tag = false
is_listed (e ∷ es) tag = eqb e.0 tag || is_listed es tag

abbrev once : List Entry → Bool
once [] = true
once (e ∷ es) = not (is_listed es e.0) && once es

pub each_once : once field_table ≡ true
each_once = refl

-- the one length n that a file's field with this tag has, where a length that depends is `size`
pub record Sized (file : File) (tag size n : ℕ) : Type 0 where
  pub known : is_known (length_of file tag) ≡ true
  pub allowed : is_allowed (length_of file tag) size n ≡ true

module _ (file : File) (tag size : ℕ) where
  pub fixed : (n : ℕ) → length_of file tag ≡ Some (Fixed n) → Sized file tag size n
  fixed n e = record { known = ap is_known e; allowed = ap (λ b. is_allowed b size n) e ∙ eq-eqb n n refl }

  pub dependent : length_of file tag ≡ Some Depends → Sized file tag size size
  dependent e = record { known = ap is_known e; allowed = ap (λ b. is_allowed b size size) e ∙ eq-eqb size size refl }

  -- no other length is allowed
  pub one_length : (m n : ℕ) → is_allowed (length_of file tag) size m ≡ true → is_allowed (length_of file tag) size n ≡ true → m ≡ n
  one_length m n = go (length_of file tag)
    where
      go : (b : Option BodyLength) → is_allowed b size m ≡ true → is_allowed b size n ≡ true → m ≡ n
      go None p q = never cc
      go (Some (Fixed due)) p q = eqb-true m due p ∙ sym (eqb-true n due q)
      go (Some Depends) p q = eqb-true m size p ∙ sym (eqb-true n size q)

-- one entry's fact, and the next ones'
infixr 40 ◌&◌
pub ◌&◌ : {A B : Type 0} → A → B → A × B
a & b = (a, b)

-- what holds of each entry that a file knows; the other entries don't matter
abbrev pub AllKnown : File → (ℕ → Option BodyLength → Type 0) → List Entry → Type 0
AllKnown file P [] = Unit {0}
AllKnown file P (e ∷ es) = cond (knows file e.2) (P e.0 (Some e.1) × AllKnown file P es) (AllKnown file P es)

-- holds of every tag that the file knows, with its length
pub by_table : (file : File) (P : ℕ → Option BodyLength → Type 0) (t : List Entry) → AllKnown file P t → (tag : ℕ) → is_known (length_in file t tag) ≡ true → P tag (length_in file t tag)
unfolding length_in
by_table file P [] all tag k = never cc
by_table file P (e ∷ es) all tag k = go (eqb e.0 tag) (knows file e.2) refl all (λ rest. by_table file P es rest tag) k
  where
    go : (a b : Bool) → eqb e.0 tag ≡ a → cond b (P e.0 (Some e.1) × AllKnown file P es) (AllKnown file P es) →
        (AllKnown file P es → is_known (length_in file es tag) ≡ true → P tag (length_in file es tag)) →
        is_known (cond a (cond b (Some e.1) None) (length_in file es tag)) ≡ true → P tag (cond a (cond b (Some e.1) None) (length_in file es tag))
    go true true q all rest k = subst (λ n. P n (Some e.1)) (eqb-true e.0 tag q) all.0
    go true false q all rest k = never cc
    go false true q all rest k = rest all.1 k
    go false false q all rest k = rest all k
