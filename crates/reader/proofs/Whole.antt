-- What a call of `read` leaves, from what reading the whole list left.
use mathlib.Core.Path.{◌≡◌, ap, ◌∙◌}
use mathlib.Core.List.{List, map}
use Prim.Native.Nat.{ℕ, zero, suc, ◌-◌}
use native.Mathlib.Nat.{sub-zero, zero-sub, suc-sub-suc}
use lib.ListN.{length, drop, replicate, length-replicate}
use lib.IntN.{ℤ, pos}
use lib.Ieee.{Float}
use Rattle.codes.specs.declared.Code.{Code}
use Rattle.list.specs.List.{ListRooms, Got, got, stop, Described, described, limit_of, read_of}
use Rattle.list.specs.Steps.{f32_of, zero_f32}
use Rattle.codes.specs.Refusal.{refused}
use Rattle.codes.proofs.Refusals.{same_refusal}
use Rattle.read_list.specs.Answer.{done}
use Rattle.read_list.proofs.Answers.{same_done}
use Rattle.reader.specs.Read.{leaves, rooms_of, outcome, read_outcome}
use Rattle.reader.specs.Rest.{ListLeft, Wiped}

-- ---- zeros before, and zeros after a refusal

pub drop_replicate : {A : Type 0} (k n : ℕ) (z : A) → drop k (replicate n z) ≡ replicate (n - k) z
drop_replicate zero n z = rw sub-zero
drop_replicate (suc k) zero z = rw zero-sub
drop_replicate (suc k) (suc n) z = rw suc-sub-suc (drop_replicate k n z)

pub stopped : (g : Got Described) (k : Code) (p : ℕ) (n n' : List ℕ) (s s' : List Float) (d d' c c' : List ℤ) (rooms : ListRooms) → ListLeft g (refused k p) n n' s s' d d' c c'
    → leaves (refused k p) (replicate rooms.counts 0) (replicate rooms.starts zero_f32) (replicate rooms.deltas (pos 0)) (replicate rooms.coefficients (pos 0)) ≡ outcome rooms g
stopped (got (described a zs ns ds cs) l) k p n n' s s' d d' c c' rooms h = cc h.0
stopped (stop j q) k p n n' s s' d d' c c' rooms h =
    let same = same_refusal h in
    rw (same.0, same.1)

pub read_all : (g : Got Described) (i m : ℕ) (a : ℤ) (n' : List ℕ) (s' : List Float) (d' c' : List ℤ) (rooms : ListRooms)
    → ListLeft g (done i m a) (replicate rooms.counts 0) n' (replicate rooms.starts zero_f32) s' (replicate rooms.deltas (pos 0)) d' (replicate rooms.coefficients (pos 0)) c'
    → leaves (done i m a) n' s' d' c' ≡ outcome rooms g
read_all (stop j q) i m a n' s' d' c' rooms h = cc
read_all (got (described b zs ns ds cs) l) i m a n' s' d' c' rooms h =
    let same = same_done h.0 in
    rw (
      h.1,
      h.2,
      h.3,
      h.4,
      same.0,
      same.1,
      same.2,
      drop_replicate {A = ℕ} (length ns) rooms.counts 0,
      drop_replicate (length (map f32_of zs)) rooms.starts zero_f32,
      drop_replicate (length ds) rooms.deltas (pos 0),
      drop_replicate (length cs) rooms.coefficients (pos 0),
    )

module _ (configured pixels limit : ℕ) (el : limit ≡ limit_of configured pixels) (list : List ℕ) (n wn : List ℕ) (s ws : List Float) (d wd c wc : List ℤ) (w : Wiped n wn s ws d wd c wc) where
  same : rooms_of wn ws wd wc ≡ rooms_of n s d c
  same =
      rw (
        ap length w.counts ∙ length-replicate {A = ℕ} (length n) 0,
        ap length w.starts ∙ length-replicate (length s) zero_f32,
        ap length w.deltas ∙ length-replicate (length d) (pos 0),
        ap length w.coefficients ∙ length-replicate (length c) (pos 0),
      )

  pub read_done : (i m : ℕ) (a : ℤ) (n' : List ℕ) (s' : List Float) (d' c' : List ℤ)
      → ListLeft (read_of limit (rooms_of wn ws wd wc) list) (done i m a) wn n' ws s' wd d' wc c'
      → leaves (done i m a) n' s' d' c' ≡ read_outcome configured pixels (rooms_of n s d c) list
  read_done i m a n' s' d' c' h =
      read_all (read_of (limit_of configured pixels) (rooms_of n s d c) list) i m a n' s' d' c' (rooms_of n s d c)
      (rw (same, el, w.counts, w.starts, w.deltas, w.coefficients) at h)

  pub read_refused : (k : Code) (p : ℕ) (n' n'' : List ℕ) (s' s'' : List Float) (d' d'' c' c'' : List ℤ)
      → ListLeft (read_of limit (rooms_of wn ws wd wc) list) (refused k p) wn n' ws s' wd d' wc c'
      → length n' ≡ length wn → length s' ≡ length ws → length d' ≡ length wd → length c' ≡ length wc → Wiped n' n'' s' s'' d' d'' c' c''
      → leaves (refused k p) n'' s'' d'' c'' ≡ read_outcome configured pixels (rooms_of n s d c) list
  read_refused k p n' n'' s' s'' d' d'' c' c'' h ln ls ld lc v =
      rw (v.counts, v.starts, v.deltas, v.coefficients, ln ∙ ap ListRooms.counts same, ls ∙ ap ListRooms.starts same, ld ∙ ap ListRooms.deltas same, lc ∙ ap ListRooms.coefficients same)
      (stopped (read_of (limit_of configured pixels) (rooms_of n s d c) list) k p wn n' ws s' wd d' wc c' (rooms_of n s d c) (rw (same, el) at h))

-- Assumes nothing.
