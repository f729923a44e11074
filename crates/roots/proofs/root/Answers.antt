-- A value above zero goes to root_above; each other case of a float is computed.
use mathlib.Core.Path.{◌≡◌, refl}
use mathlib.Core.Bool.{true, false, not}
use Prim.Native.Nat.{zero, suc}
use lib.Dec.{T, T_not}
use lib.Ieee.{Float, nan, inf, fin, binary32, of_bits, div, lt}
use Rattle.numbers.proofs.Zero.{yes, no, null, over, under, not_under, zero_not_under, above}
use Rattle.roots.specs.Root.{sqrt_of}
use Rattle.roots.proofs.root.Goals as goal

endless : (x : Float) → T (lt null x) → T (not (lt x (inf false))) → x ≡ sqrt_of binary32 x
unfolding lt sqrt_of
endless nan a b = absurd a
endless (inf true) a b = absurd a
endless (inf false) a b = refl
endless (fin s m e) a b = absurd b

negative : (x : Float) → T (lt x null) → nan ≡ sqrt_of binary32 x
unfolding lt sqrt_of
negative nan a = absurd a
negative (inf true) a = refl
negative (inf false) a = absurd a
negative (fin s zero e) a = absurd (zero_not_under s e a)
negative (fin false (suc m) e) a = absurd (not_under (suc m) e a)
negative (fin true (suc m) e) a = refl

rest : (x : Float) → T (not (lt null x)) → T (not (lt x null)) → x ≡ sqrt_of binary32 x
unfolding lt sqrt_of
rest nan a b = refl
rest (inf true) a b = absurd b
rest (inf false) a b = refl
rest (fin s zero e) a b = refl
rest (fin false (suc m) e) a b = absurd (T_not (lt null (fin false (suc m) e)) a (over m e))
rest (fin true (suc m) e) a b = absurd (T_not (lt (fin true (suc m) e) null) b (under m e))

pub root_above-requires : goal.root_above-requires
unfolding of_bits div
root_above-requires c = above c.args.x (inf false) (yes c.if-x.true) (yes c.if-x-2.true)

pub returns-else-x-2 : goal.returns-else-x-2
unfolding of_bits div
returns-else-x-2 c = endless c.args.x (yes c.if-x.true) (no c.if-x-2.false)

pub returns-then-x-3 : goal.returns-then-x-3
unfolding of_bits div
returns-then-x-3 c = negative c.args.x (yes c.if-x-3.true)

pub returns-else-x-3 : goal.returns-else-x-3
unfolding of_bits
returns-else-x-3 c = rest c.args.x (no c.if-x.false) (no c.if-x-3.false)
