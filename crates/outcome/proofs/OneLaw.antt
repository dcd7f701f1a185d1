-- The law by which every contract leaves one outcome: two values that equal the same value are equal.
use mathlib.Core.Path.{◌≡◌, sym, ◌∙◌}

pub both : {A : Type 0} {x y z : A} → x ≡ z → y ≡ z → x ≡ y
both p q = p ∙ sym q
