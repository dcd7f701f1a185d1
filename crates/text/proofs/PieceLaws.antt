-- The pieces of some bytes: the first one and those behind its separator; joined they are the bytes, and pieces that are joined come apart again.
use Prim.Native.Nat.{ℕ, suc, ◌≤◌}
use mathlib.Core.Path.{◌≡◌, refl, sym, ap, ap₂, ◌∙◌}
use mathlib.Core.Bool.{Bool, true, false, cond}
use mathlib.Core.List.{List, [], ◌∷◌, ◌++◌}
use native.Mathlib.Omega.{arith}
use borrow.Author.Tests.{eq-eqb, ne_eqb, eqb-true}
use lib.Dec.{eqb}
use lib.ListN.{length, take}
use Rattle.std.specs.List.{slice_split, onto_first}
use Rattle.outcome.proofs.Never.{never}
use Rattle.text.specs.Pieces.{until, in_front, pieces, joined, Free, AllFree}

module _ (sep : ℕ) where
  -- the pieces are the parts that the library's `split` gives
  pub split_pieces : (bytes : List ℕ) → slice_split (λ b. eqb b sep) bytes ≡ pieces sep bytes
  unfolding pieces
  split_pieces [] = refl
  split_pieces (b ∷ bytes) = rw (split_pieces bytes) (go (pieces sep bytes) (eqb b sep))
    where
      go : (ps : List (List ℕ)) (t : Bool) → cond t ([] ∷ ps) (onto_first b ps) ≡ cond t ([] ∷ ps) (in_front b ps)
      go [] t = refl
      go (p ∷ ps) t = refl

  -- the bytes before the first separator: no more than there are, and the first so many
  pub until_within : (bytes : List ℕ) → length (until sep bytes) ≤ length bytes
  unfolding until
  until_within [] = omega arith
  until_within (b ∷ bytes) = go (eqb b sep) (until_within bytes)
    where
      go : (t : Bool) → length (until sep bytes) ≤ length bytes → length (cond t [] (b ∷ until sep bytes)) ≤ suc (length bytes)
      go true h = omega arith
      go false h = omega arith

  until_takes : (bytes : List ℕ) → until sep bytes ≡ take (length (until sep bytes)) bytes
  unfolding until
  until_takes [] = refl
  until_takes (b ∷ bytes) = go (eqb b sep) (until_takes bytes)
    where
      go : (t : Bool) → until sep bytes ≡ take (length (until sep bytes)) bytes → cond t [] (b ∷ until sep bytes) ≡ take (length (cond t [] (b ∷ until sep bytes))) (b ∷ bytes)
      go true h = refl
      go false h = ap (λ l. b ∷ l) h

  -- no separator: one piece
  pub one_piece : (bytes : List ℕ) → length (until sep bytes) ≡ length bytes → pieces sep bytes ≡ bytes ∷ []
  unfolding until pieces
  one_piece [] h = refl
  one_piece (b ∷ bytes) h = go (eqb b sep) h (one_piece bytes)
    where
      go : (t : Bool) → length (cond t [] (b ∷ until sep bytes)) ≡ suc (length bytes) → (length (until sep bytes) ≡ length bytes → pieces sep bytes ≡ bytes ∷ []) → cond t ([] ∷ pieces sep bytes) (in_front b (pieces sep bytes)) ≡ (b ∷ bytes) ∷ []
      go true e later = absurd (omega arith)
      go false e later = ap (in_front b) (later (omega arith))

  -- there is at least one piece
  pub any_piece : (bytes : List ℕ) → (pieces sep bytes ≡ []) → ⊥
  unfolding pieces
  any_piece [] e = never cc
  any_piece (b ∷ bytes) e = go (eqb b sep) (pieces sep bytes) e
    where
      go : (t : Bool) (ps : List (List ℕ)) → cond t ([] ∷ ps) (in_front b ps) ≡ [] → ⊥
      go true ps e = never cc
      go false [] e = never cc
      go false (p ∷ ps) e = never cc

  -- pieces that are joined again are the bytes
  pub joined_pieces : (bytes : List ℕ) → joined sep (pieces sep bytes) ≡ bytes
  unfolding pieces joined
  joined_pieces [] = refl
  joined_pieces (b ∷ bytes) = go (eqb b sep) refl (pieces sep bytes) (any_piece bytes) (joined_pieces bytes)
    where
      front : (p : List ℕ) (ps : List (List ℕ)) → joined sep ((b ∷ p) ∷ ps) ≡ b ∷ joined sep (p ∷ ps)
      front p [] = refl
      front p (q ∷ ps) = refl

      go : (t : Bool) → eqb b sep ≡ t → (ps : List (List ℕ)) → ((ps ≡ []) → ⊥) → joined sep ps ≡ bytes → joined sep (cond t ([] ∷ ps) (in_front b ps)) ≡ b ∷ bytes
      go t e [] some same = absurd (some refl)
      go true e (p ∷ ps) some same = ap₂ (λ c l. c ∷ l) (sym (eqb-true b sep e)) same
      go false e (p ∷ ps) some same = front p ps ∙ ap (λ l. b ∷ l) same

  -- no piece has a separator
  pub pieces_free : (bytes : List ℕ) → AllFree sep (pieces sep bytes)
  unfolding pieces until
  pieces_free [] = (refl, tt)
  pieces_free (b ∷ bytes) = go (eqb b sep) refl (pieces sep bytes) (pieces_free bytes)
    where
      go : (t : Bool) → eqb b sep ≡ t → (ps : List (List ℕ)) → AllFree sep ps → AllFree sep (cond t ([] ∷ ps) (in_front b ps))
      go true e ps free = (refl, free)
      go false e [] free = (rw e, tt)
      go false e (p ∷ ps) free = (rw (e, free.0), free.1)

  -- a piece, a separator and more bytes
  pub piece_then : (p rest : List ℕ) → Free sep p → pieces sep (p ++ (sep ∷ rest)) ≡ p ∷ pieces sep rest
  unfolding pieces until
  piece_then [] rest free = rw (eq-eqb sep sep refl)
  piece_then (b ∷ p) rest free = go (eqb b sep) free (piece_then p rest)
    where
      go : (t : Bool) → cond t [] (b ∷ until sep p) ≡ b ∷ p → (until sep p ≡ p → pieces sep (p ++ (sep ∷ rest)) ≡ p ∷ pieces sep rest) →
          cond t ([] ∷ pieces sep (p ++ (sep ∷ rest))) (in_front b (pieces sep (p ++ (sep ∷ rest)))) ≡ (b ∷ p) ∷ pieces sep rest
      go true e later = never cc
      go false e later = let same : until sep p ≡ p = cc in ap (in_front b) (later same)

  pub free_piece : (p : List ℕ) → Free sep p → pieces sep p ≡ p ∷ []
  free_piece p free = one_piece p (ap length free)

  -- joined pieces come apart again
  pub pieces_joined : (p : List ℕ) (ps : List (List ℕ)) → Free sep p → AllFree sep ps → pieces sep (joined sep (p ∷ ps)) ≡ p ∷ ps
  unfolding joined
  pieces_joined p [] free others = free_piece p free
  pieces_joined p (q ∷ ps) free others = piece_then p (joined sep (q ∷ ps)) free ∙ ap (λ l. p ∷ l) (pieces_joined q ps others.0 others.1)

  -- bytes without separators, one run behind the other
  pub free_both : (a b : List ℕ) → Free sep a → Free sep b → Free sep (a ++ b)
  unfolding until
  free_both [] b e f = f
  free_both (x ∷ a) b e f = go (eqb x sep) e (λ h. free_both a b h f)
    where
      go : (t : Bool) → cond t [] (x ∷ until sep a) ≡ x ∷ a → (until sep a ≡ a → until sep (a ++ b) ≡ a ++ b) → cond t [] (x ∷ until sep (a ++ b)) ≡ x ∷ (a ++ b)
      go true e later = never cc
      go false e later = let same : until sep a ≡ a = cc in ap (λ l. x ∷ l) (later same)

  pub free_byte : (b : ℕ) → (b ≡ sep → ⊥) → Free sep (b ∷ [])
  unfolding until
  free_byte b h = rw (ne_eqb b sep h)
