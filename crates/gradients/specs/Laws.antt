-- What the gradients come to in particular cases. Assumes nothing.
use Rattle.std.specs.Prelude.{◌≡◌, true, Float}
use Rattle.std.proofs.Math.Path.{refl}
use Rattle.std.specs.Float.Ieee as ieee
use Rattle.std.specs.Float.Ieee.{lt, of_bits, to_bits, is_nan}
use Rattle.real.specs.Acos.{acos}
use Rattle.real.specs.Float.{◌⊖◌, ◌⊗◌, f0, f1, f2}
use Rattle.real.specs.Real.{clamp}
use Rattle.root.specs.Root.{root_of}
use Rattle.vector.specs.Vector as v
use Rattle.vector.specs.declared.Vec3.{Vec3}
use Rattle.vector.specs.declared.Four.{Four}
use Rattle.gradients.specs.Dihedral.{micro, no_gradients, fold_of, no_area, bent, dihedral_gradients}
use Rattle.gradients.specs.Gradients.{distance_gradients}
use Rattle.gradients.specs.declared.Fold.{Fold}

-- a distance row's two gradients are opposite, and it leaves the other two as they are
module _ (pos grad : Four Vec3) (rest : Float) where
  abbrev g : Four Vec3
  g = (distance_gradients pos grad rest).grad

  pub opposite : g.a ≡ v.neg g.b
  unfolding distance_gradients
  opposite = refl

  pub third_kept : g.c ≡ grad.c
  unfolding distance_gradients
  third_kept = refl

  pub fourth_kept : g.d ≡ grad.d
  unfolding distance_gradients
  fourth_kept = refl

-- a triangle without area: the error is 0, whatever the rest
pub no_area_lem : (pos : Four Vec3) (rest : Float) → no_area (fold_of pos) ≡ true → dihedral_gradients pos rest ≡ record { grad = no_gradients; error = f0 }
unfolding dihedral_gradients
no_area_lem pos rest h = rw h refl

abbrev same : Vec3 → Four Vec3
same p = record { a = p; b = p; c = p; d = p }

-- four points at (1, 1, 1) with `rest` 2: the error is 0, not -2
pub four_equal : dihedral_gradients (same (record { x = f1; y = f1; z = f1 })) f2 ≡ record { grad = no_gradients; error = f0 }
unfolding fold_of v.sub v.cross v.divide v.dot v.length_of root_of is_nan to_bits of_bits ieee.of_fields ieee.lt ieee.add ieee.sub ieee.neg ieee.mul ieee.sum ieee.round ieee.units ieee.odd ieee.span ieee.climb ieee.size
four_equal = no_area_lem (same (record { x = f1; y = f1; z = f1 })) f2 refl

-- two triangles in one plane: no gradients, and the error all the same
pub in_one_plane : (f : Fold) (rest d : Float) → d ≡ clamp (v.dot f.n1 f.n2) (ieee.neg f1) f1 → lt (root_of (f1 ⊖ d ⊗ d)) micro ≡ true
    → bent f rest ≡ record { grad = no_gradients; error = acos d ⊖ rest }
unfolding bent
in_one_plane f rest d e h = rw (← e, h) refl
