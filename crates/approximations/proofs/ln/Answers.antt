-- A value above zero goes to ln_above; each other case of a float is computed.
use mathlib.Core.Path.{◌≡◌, refl}
use mathlib.Core.Bool.{true, false, not}
use Prim.Native.Nat.{zero, suc}
use lib.Dec.{T, T_not}
use lib.Ieee.{Float, nan, inf, fin, of_bits, div, neg, lt, eq}
use Rattle.numbers.proofs.Zero.{yes, no, null, over, zero_is, not_zero, above}
use Rattle.approximations.specs.Ln.{ln_of}
use Rattle.approximations.proofs.ln.Goals as goal

endless : (x : Float) → T (lt null x) → T (not (lt x (inf false))) → x ≡ ln_of x
unfolding lt ln_of
endless nan a b = absurd a
endless (inf true) a b = absurd a
endless (inf false) a b = refl
endless (fin s m e) a b = absurd b

at_zero : (x : Float) → T (eq x null) → inf true ≡ ln_of x
unfolding eq ln_of
at_zero nan a = absurd a
at_zero (inf s) a = absurd a
at_zero (fin s zero e) a = refl
at_zero (fin s (suc m) e) a = absurd (not_zero s m e a)

rest : (x : Float) → T (not (lt null x)) → T (not (eq x null)) → nan ≡ ln_of x
unfolding lt eq ln_of
rest nan a b = refl
rest (inf true) a b = refl
rest (inf false) a b = absurd a
rest (fin s zero e) a b = absurd (T_not (eq (fin s 0 e) null) b (zero_is s e))
rest (fin false (suc m) e) a b = absurd (T_not (lt null (fin false (suc m) e)) a (over m e))
rest (fin true (suc m) e) a b = refl

pub ln_above-requires : goal.ln_above-requires
unfolding of_bits div
ln_above-requires c = above c.args.x (inf false) (yes c.if-x.true) (yes c.if-x-2.true)

pub returns-else-x-2 : goal.returns-else-x-2
unfolding of_bits div
returns-else-x-2 c = endless c.args.x (yes c.if-x.true) (no c.if-x-2.false)

pub returns-then-x-3 : goal.returns-then-x-3
unfolding of_bits div neg
returns-then-x-3 c = at_zero c.args.x (yes c.if-x-3.true)

pub returns-else-x-3 : goal.returns-else-x-3
unfolding of_bits div
returns-else-x-3 c = rest c.args.x (no c.if-x.false) (no c.if-x-3.false)
