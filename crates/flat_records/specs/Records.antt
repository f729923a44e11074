-- A segment of a flat list of eight floats a segment, with its owner, as a record: what the lists say of the record of a number, and when a number is known. Definitions only.
use Rattle.std.specs.Prelude.{Bool, cond, ◌&&◌, List, ℕ, ◌*◌, ◌/◌, leb, ltb, length, get_or, Float}
use Rattle.numbers.specs.Arith.{f}
use Rattle.segments.specs.declared.Segment.{Segment}
use Rattle.segments.specs.Segment.{segment_at}
use Rattle.flat_records.specs.declared.SegmentRecord.{SegmentRecord}

-- a segment and its owner as a record
abbrev pub joined_of : Segment → ℕ → SegmentRecord
joined_of s owner = record {
  center_x = s.center_x;
  center_y = s.center_y;
  maximum_distance = s.maximum_distance;
  inv_sigma = s.inv_sigma;
  sigma_over_4_times_intensity = s.sigma_over_4_times_intensity;
  color0 = s.color0;
  color1 = s.color1;
  color2 = s.color2;
  owner = owner;
}

-- the segment of a record
abbrev pub without_owner : SegmentRecord → Segment
without_owner r = record {
  center_x = r.center_x;
  center_y = r.center_y;
  maximum_distance = r.maximum_distance;
  inv_sigma = r.inv_sigma;
  sigma_over_4_times_intensity = r.sigma_over_4_times_intensity;
  color0 = r.color0;
  color1 = r.color1;
  color2 = r.color2;
}

-- the record of zeros
unfoldable pub zero_record : SegmentRecord
zero_record = record {
  center_x = f 0;
  center_y = f 0;
  maximum_distance = f 0;
  inv_sigma = f 0;
  sigma_over_4_times_intensity = f 0;
  color0 = f 0;
  color1 = f 0;
  color2 = f 0;
  owner = 0;
}

-- record k of the first c segments of a flat list with their owners: zeros from c on, and where a list is too short
unfoldable pub record_of : List Float → List ℕ → ℕ → ℕ → SegmentRecord
record_of xs us c k = cond (ltb k c && (ltb k (length xs / 8) && ltb k (length us))) (joined_of (segment_at xs k) (get_or us k 0)) zero_record

-- a number is known when it is below the count, and the count fits the floats
unfoldable pub is_known : List Float → ℕ → ℕ → Bool
is_known xs c i = ltb i c && leb (8 * c) (length xs)
