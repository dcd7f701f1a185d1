-- Steps one after the other, from what was read so far; a fault stays.
use mathlib.Core.Path.{◌≡◌}
use mathlib.Core.List.{List, [], ◌∷◌}
use Rattle.lines.specs.declared.readings.Stage.TheVariants.{Fault}
use Rattle.lines.specs.declared.readings.Reading.{Reading}

module _ {A : Type 0} (step : Reading → A → Reading) where
  unfoldable pub steps_by : Reading → List A → Reading
  steps_by r [] = r
  steps_by r (x ∷ xs) = steps_by (step r x) xs

  pub steps_faulty : ((r : Reading) (x : A) → r.stage ≡ Fault → (step r x).stage ≡ Fault) → (r : Reading) (xs : List A) → r.stage ≡ Fault → (steps_by r xs).stage ≡ Fault
  unfolding steps_by
  steps_faulty stays r [] e = e
  steps_faulty stays r (x ∷ xs) e = steps_faulty stays (step r x) xs (stays r x e)
