-- Readings of a small file, computed: a negative first start, -8388608, and no splines at all.
use mathlib.Core.Path.{◌≡◌, refl}
use mathlib.Core.Bool.{true}
use mathlib.Core.List.{[], ◌∷◌}
use lib.ListN.{replicate}
use lib.IntN.{pos, negsuc}
use lib.Ieee.{fin, of_int, round}
use Rattle.list.specs.List.{got, Described, described}
use Rattle.list.specs.Steps.{f32_of}
use Rattle.reader.specs.Read.{leaves}
use Rattle.read_list.specs.Answer.{done}
use Rattle.writer.specs.Write.{first_fault}
use Rattle.little.specs.Little.{bytes_of, numbers_in}
use Rattle.trace.specs.Trace.{version1, file_of, number_checks}
use Rattle.trace.specs.Read.{version_checks, offset_checks, length_checks, misplaced, too_wild, part_checks, body_checks, read_checks, tight, whole_checks, described_in, read_trace, read_trace_of}
use Rattle.trace_laws.specs.Small.{small_file, small_rooms}

abbrev small_whole : Described
small_whole = described (negsuc 7) (negsuc 2 ∷ negsuc 8388607 ∷ []) (0 ∷ []) [] (replicate 128 (pos 0))

-- it is read: adjustment -8, start -3 and -8388608
pub small_read : read_trace small_rooms small_file ≡ got small_whole []
unfolding read_trace whole_checks read_checks version_checks offset_checks body_checks length_checks part_checks misplaced too_wild number_checks tight described_in first_fault numbers_in
small_read = refl

-- it is the file of what it says
pub small_written : file_of version1 [] small_whole ≡ small_file
unfolding file_of bytes_of
small_written = refl

-- as f32
pub start_minus_3 : f32_of (negsuc 2) ≡ fin true 3 (pos 0)
unfolding f32_of of_int round
start_minus_3 = refl

pub start_least : f32_of (negsuc 8388607) ≡ fin true 1 (pos 23)
unfolding f32_of of_int round
start_least = refl

-- all of what the call leaves
pub small_outcome : read_trace_of small_rooms small_file ≡ leaves (done 1 0 (negsuc 7)) (0 ∷ []) (fin true 3 (pos 0) ∷ fin true 1 (pos 23) ∷ []) [] (replicate 128 (pos 0))
unfolding read_trace_of
small_outcome = rw (small_read, start_minus_3, start_least)

-- Assumes nothing.
