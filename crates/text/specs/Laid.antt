-- Bytes laid into a buffer from a place on. Those past its end are lost, so that the same walk writes, and counts where the buffer is empty.
use Rattle.std.specs.Prelude.{ℕ, suc, List, [], ◌∷◌, set}

-- one after the other, from the place `at` on
unfoldable pub laid : ℕ → List ℕ → List ℕ → List ℕ
laid at [] old = old
laid at (b ∷ bytes) old = laid (suc at) bytes (set old at b)
