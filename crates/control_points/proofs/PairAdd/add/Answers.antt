-- `control_points::PairAdd::add`: a sum that fits is that of each coordinate.
use Rattle.std.proofs.Common.{◌≡◌, ℕ, suc, ◌+◌, ◌-◌, ◌<◌, ◌≤◌, Bool, true, false, cond, ltb, ℤ, pos, negsuc, ◌+ℤ◌, refl, arith, w32, SFits, to_z, of_z, to_z-of_z}
use lib.Signed.{mag}
use Rattle.control_points.specs.declared.Pair.{Pair}
use Rattle.control_points.specs.ControlPoints.{plus_of}
use Rattle.control_points.specs.Asked.{Fine}
use Rattle.control_points.proofs.PairAdd.add.Goals as goal

mag_sub : (a b : ℕ) (t : Bool) → mag (cond t (negsuc (b - suc a)) (pos (a - b))) ≤ a + b
mag_sub a b true = omega arith
mag_sub a b false = omega arith

mag_sum : (x y : ℤ) → mag (x +ℤ y) ≤ mag x + mag y + 1
mag_sum (pos a) (pos b) = omega arith
mag_sum (pos a) (negsuc b) = omega (arith, mag_sub a (suc b) (ltb a (suc b)))
mag_sum (negsuc a) (pos b) = omega (arith, mag_sub b (suc a) (ltb b (suc a)))
mag_sum (negsuc a) (negsuc b) = omega arith

-- the sum of two small numbers, all three held by their bits
held : (a b : ℤ) → mag a < 1073741824 → mag b < 1073741824 → to_z w32 (of_z w32 (to_z w32 (of_z w32 a) +ℤ to_z w32 (of_z w32 b))) ≡ a +ℤ b
held a b f g =
    let fa : SFits w32 a = record { sfits = omega arith } in
    let fb : SFits w32 b = record { sfits = omega arith } in
    let fs : SFits w32 (a +ℤ b) = record { sfits = omega (arith, mag_sum a b) } in
    rw (to_z-of_z {w = w32} {z = a} fa, to_z-of_z {w = w32} {z = b} fb) (to_z-of_z {w = w32} {z = a +ℤ b} fs)

sums : (p q : Pair) → Fine p → Fine q → ◌≡◌ {A = Pair}
    (record {
      x = to_z w32 (of_z w32 (to_z w32 (of_z w32 p.x) +ℤ to_z w32 (of_z w32 q.x)));
      y = to_z w32 (of_z w32 (to_z w32 (of_z w32 p.y) +ℤ to_z w32 (of_z w32 q.y)));
    })
    (plus_of p q)
unfolding plus_of
sums p q f g = rw (held p.x q.x f.x g.x, held p.y q.y f.y g.y) refl

pub returns : goal.returns
returns c = sums c.args.self c.args.o c.requires.0 c.requires.1
