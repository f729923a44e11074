-- The answer after the checks.
use mathlib.Core.Path.{◌≡◌, sym, ap}
use mathlib.Core.List.{List}
use Prim.Native.Nat.{ℕ}
use lib.ListN.{length}
use lib.Ieee.{Float}
use Rattle.codes.specs.declared.Code.{Code}
use Rattle.checks.specs.Verdict.{Verdict, Fine, Fault}
use Rattle.desks.specs.Desks.{Sight}
use Rattle.checks.specs.Tables.{Table, shown_of}
use Rattle.checks.specs.Checks.{judge_draw}
use Rattle.draw.specs.Draw.{updates, Channels, three, leaves, drawn_channel, outcome, draw_of}
use Rattle.draw.specs.DrawAnswer.{Done, Refused}

module _ (t : Table) (s : Sight) (y x0 n : ℕ) (a : Channels) where
  pub answer_fault : {c : Code} → judge_draw t s y x0 n (length a.r0) (length a.r1) (length a.r2) ≡ Fault c → leaves (Refused c 0) a ≡ draw_of t s y x0 n a
  unfolding draw_of
  answer_fault e = sym (ap (λ (v : Verdict). outcome v t s y x0 n a) e)

  pub answer_done : {u : ℕ} {z0 z1 z2 : List Float} → judge_draw t s y x0 n (length a.r0) (length a.r1) (length a.r2) ≡ Fine → u ≡ updates t.segments x0 n (shown_of t s y) → z0 ≡ drawn_channel 0 t s y x0 n a.r0 → z1 ≡ drawn_channel 1 t s y x0 n a.r1 → z2 ≡ drawn_channel 2 t s y x0 n a.r2 → leaves (Done u) (three z0 z1 z2) ≡ draw_of t s y x0 n a
  unfolding draw_of
  answer_done e p q0 q1 q2 = rw (p, q0, q1, q2) (sym (ap (λ (v : Verdict). outcome v t s y x0 n a) e))

-- Assumes nothing.
