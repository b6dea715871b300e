-- Three-vectors. Sums run left to right. Definitions only. Assumes nothing.
use Rattle.std.specs.Float.Ieee as ieee
use Rattle.std.specs.Prelude.{Float}
use Rattle.real.specs.Float.{◌⊕◌, ◌⊖◌, ◌⊗◌, ◌⊘◌, f0}
use Rattle.root.specs.Root.{root_of}
use Rattle.vector.specs.declared.Vec3.{Vec3}
use Rattle.vector.specs.declared.Four.{Four}

-- the same value for each of the four
abbrev pub splat : {T : Type 0} → T → Four T
splat x = record { a = x; b = x; c = x; d = x }

-- r is what the steps make of the four, one after another, from init on
abbrev pub Folded : {A T : Type 0} → (A → T → A → Type 0) → A → Four T → A → Type 0
Folded {A} step init x r = (p q s : A) × step init x.a p × step p x.b q × step q x.c s × step s x.d r

unfoldable pub zero_vector : Vec3
zero_vector = record { x = f0; y = f0; z = f0 }

unfoldable pub add : Vec3 → Vec3 → Vec3
add a b = record { x = a.x ⊕ b.x; y = a.y ⊕ b.y; z = a.z ⊕ b.z }

unfoldable pub sub : Vec3 → Vec3 → Vec3
sub a b = record { x = a.x ⊖ b.x; y = a.y ⊖ b.y; z = a.z ⊖ b.z }

-- unary minus: the sign bit of each part is turned
unfoldable pub neg : Vec3 → Vec3
neg a = record { x = ieee.neg a.x; y = ieee.neg a.y; z = ieee.neg a.z }

unfoldable pub scale : Vec3 → Float → Vec3
scale a k = record { x = a.x ⊗ k; y = a.y ⊗ k; z = a.z ⊗ k }

unfoldable pub divide : Vec3 → Float → Vec3
divide a k = record { x = a.x ⊘ k; y = a.y ⊘ k; z = a.z ⊘ k }

unfoldable pub dot : Vec3 → Vec3 → Float
dot a b = a.x ⊗ b.x ⊕ a.y ⊗ b.y ⊕ a.z ⊗ b.z

unfoldable pub cross : Vec3 → Vec3 → Vec3
cross a b = record { x = a.y ⊗ b.z ⊖ b.y ⊗ a.z; y = a.z ⊗ b.x ⊖ b.z ⊗ a.x; z = a.x ⊗ b.y ⊖ b.x ⊗ a.y }

unfoldable pub element_sum : Vec3 → Float
element_sum a = a.x ⊕ a.y ⊕ a.z

unfoldable pub length_squared : Vec3 → Float
length_squared a = dot a a

-- the function `length`
unfoldable pub length_of : Vec3 → Float
length_of a = root_of (dot a a)
