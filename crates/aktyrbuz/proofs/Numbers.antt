-- A layer's outcome is what its export leaves.
use mathlib.Core.Path.{◌≡◌}
use mathlib.Core.List.{List}
use Prim.Native.Nat.{ℕ}
use lib.IntN.{ℤ}
use lib.Ieee.{Float}
use Rattle.reader.specs.Read as Read
use Rattle.read_list.specs.Answer.{ReadAnswer}
use Rattle.writer.specs.Write as Write
use Rattle.writer.specs.WriteAnswer.{WriteAnswer}
use Rattle.table.specs.Table as Build
use Rattle.build_answer.specs.BuildAnswer.{BuildAnswer}
use Rattle.desks.specs.Hide as Hide
use Rattle.desks.specs.HideAnswer.{HideAnswer}
use Rattle.draw.specs.Draw as Draw
use Rattle.hull.specs.Reach as Reach
use Rattle.draw.specs.DrawAnswer.{DrawAnswer}
use Rattle.hull.specs.ReachAnswer.{ReachAnswer}
use Rattle.told.specs.Told.{told_in, told_read, told_write, told_build, told_draw, told_reach, told_hide}
use Rattle.aktyrbuz.specs.Exported.{read_leaves, read_export, write_leaves, write_export, build_leaves, build_export, draw_leaves, draw_export, reach_leaves, reach_export, hide_leaves, hide_export}

pub read_exported : {o : Read.ReadOutcome} (r : ReadAnswer) (k : ℕ) (five : List ℤ) (ns : List ℕ) (zs : List Float) (ds cs : List ℤ)
    → Read.leaves r ns zs ds cs ≡ o → k ≡ (told_read r).number → five ≡ told_in (told_read r)
    → read_leaves k five ns zs ds cs ≡ read_export o
read_exported r k five ns zs ds cs p q s = rw (← p, s, q)

pub write_exported : {o : Write.WriteOutcome} (r : WriteAnswer) (k : ℕ) (five : List ℤ) (l : List ℕ)
    → Write.leaves r l ≡ o → k ≡ (told_write r).number → five ≡ told_in (told_write r)
    → write_leaves k five l ≡ write_export o
write_exported r k five l p q s = rw (← p, s, q)

pub build_exported : {t : Build.BuildOutcome} (r : BuildAnswer) (k : ℕ) (five : List ℤ) (path walk segments : List Float) (owners starts entries : List ℕ)
    → Build.leaves r path walk segments owners starts entries ≡ t → k ≡ (told_build r).number → five ≡ told_in (told_build r)
    → build_leaves k five path walk segments owners starts entries ≡ build_export t
build_exported r k five path walk segments owners starts entries p q s = rw (← p, s, q)

pub draw_exported : {o : Draw.DrawOutcome} (r : DrawAnswer) (k : ℕ) (five : List ℤ) (a : Draw.Channels)
    → Draw.leaves r a ≡ o → k ≡ (told_draw r).number → five ≡ told_in (told_draw r)
    → draw_leaves k five a ≡ draw_export o
draw_exported r k five a p q s = rw (← p, s, q)

pub reach_exported : {o : Reach.ReachOutcome} (r : ReachAnswer) (k : ℕ) (five : List ℤ)
    → Reach.tells r ≡ o → k ≡ (told_reach r).number → five ≡ told_in (told_reach r)
    → reach_leaves k five ≡ reach_export o
reach_exported r k five p q s = rw (← p, s, q)

pub hide_exported : {o : Hide.HideOutcome} (r : HideAnswer) (k : ℕ) (five : List ℤ) (bits : List ℕ)
    → Hide.leaves r bits ≡ o → k ≡ (told_hide r).number → five ≡ told_in (told_hide r)
    → hide_leaves k five bits ≡ hide_export o
hide_exported r k five bits p q s = rw (← p, s, q)

-- Assumes nothing.
