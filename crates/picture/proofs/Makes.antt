-- The segments of a built table are those that its description makes, with no word of what was lent.
use mathlib.Core.Path.{◌≡◌, sym, ap, ◌∙◌}
use mathlib.Core.List.{List}
use Prim.Native.Nat.{ℕ}
use Rattle.dequantize.specs.Judge.{Description}
use Rattle.segments.specs.declared.Segment.{Segment}
use Rattle.table.specs.Table.{BuildRooms, Setting, BuildOutcome}
use Rattle.table.specs.Segments.{Makes}
use Rattle.table.proofs.Segments.{one_list, build_makes, drawn_are}
use Rattle.picture.specs.Picture.{Built}
use Rattle.picture.proofs.InRooms.{segments_in_rooms}

module _ {d : Description} {i : Setting} {r : BuildRooms} {o : BuildOutcome} {s e n : ℕ} (b : Built d i r o s e n) where
  pub built_makes : Makes d i (segments_in_rooms d i r)
  unfolding segments_in_rooms
  built_makes =
      let m = build_makes d i r s e n b.faint (sym (ap (λ (t : BuildOutcome). t.answer) b.outcome) ∙ b.done) in
      rw (drawn_are d i r m.segs m.owners m.needs) (record { owners = m.owners; made = m.makes })

  -- and there are no others
  pub built_are : (segs : List Segment) → Makes d i segs → segs ≡ segments_in_rooms d i r
  built_are segs m = one_list d i segs (segments_in_rooms d i r) m built_makes

-- Assumes nothing.
