-- The memory of lane 0 over the words that lanes begin on, before its first call, stands in the
-- world that they open.
use Rattle.std.proofs.Common.{◌≡◌, ℕ, ◌-◌, ◌/◌, ◌%◌, ◌<◌, ◌≤◌, ⊎_elim, List, ◌++◌, length, replicate, slice_index, Option, refl, sym, ap, ◌∙◌, subst, arith}
use Rattle.std.proofs.lemmas.Bool.{cases_lt}
use Rattle.std.proofs.lemmas.List.{get_or_append_left, get_or-append_right, get_or-replicate, get_or_past, length-append, length-replicate}
use Rattle.pm_memory.specs.Solo.{Solo, opened_with}
use Rattle.pm_view.specs.Places.{Small, Big, Root}
use Rattle.pm_view.specs.View.{Constants}
use Rattle.pm_world.proofs.OpenFaults.{opens}
use Rattle.pm_world.proofs.SoloStands.{opened_stands, opened_starts}
use Rattle.pm_world.specs.Memory.{bit}
use Rattle.pm_world.specs.Opens.{IsTaken}
use Rattle.pm_world.specs.SoloWorld.{memory_of}
use Rattle.pm_shared.specs.declared.rule.Beginning.{Beginning}
use Rattle.pm_shared.specs.Openings.{CanBegin, opening_of, generation_of}
use Rattle.pm_lanes.specs.Opens.{StandsOpened}

module _ (b : Beginning) (can : CanBegin b) (one : b.lanes ≡ 1) (stop : Option ℕ) where
  abbrev others : List ℕ
  others = replicate (32 - length b.zones.items) 0

  abbrev zones : List ℕ
  zones = b.zones.items ++ others

  abbrev fixed : ℕ → Constants
  fixed k = record { shape = b.shape; pool = b.pool; lane = k; stop = stop; lanes = 1 }

  abbrev memory : Solo
  memory = opened_with b.words.items stop b.runs.items zones

  others_long : length {A = ℕ} (replicate (32 - length b.zones.items) 0) ≡ 32 - length b.zones.items
  others_long = length-replicate (32 - length b.zones.items) 0

  pages : length b.runs.items ≡ length b.words.items / 512
  pages = let p = can.occupancy.pages in let s = can.size in omega (arith, p, s)

  count : length zones ≡ 32
  count = let a = length-append b.zones.items others in let l = others_long in
      let n = can.occupancy.zone_count in let most = b.shape.zones_to in omega (arith, a, l, n, most)

  zero_ : (n i : ℕ) → slice_index (replicate n 0) i ≡ 0
  zero_ n i = ⊎_elim (λ (l : i < n). get_or-replicate n i 0 0 l)
      (λ (l : n ≤ i). get_or_past (replicate n 0) i 0
      (let q = length-replicate {A = ℕ} n 0 in omega (arith, q, l))) (cases_lt i n)

  -- a zone that the pool does not have has no bit, as before
  padded : (z : ℕ) → slice_index zones z ≡ slice_index b.zones.items z
  padded z = ⊎_elim
      (λ (l : z < length b.zones.items). get_or_append_left b.zones.items others 0 z l)
      (λ (l : length b.zones.items ≤ z).
      get_or-append_right b.zones.items others (length b.zones.items) z 0 refl l
      ∙ (zero_ (32 - length b.zones.items) (z - length b.zones.items)
      ∙ sym (get_or_past b.zones.items z 0 l)))
      (cases_lt z (length b.zones.items))

  taken : IsTaken (opening_of b) (memory_of memory)
  taken (Small c i) h = can.occupancy.taken (Small c i) h
  taken (Big c) h = ap (λ y. bit y (c % 64)) (padded (c / 64)) ∙ can.occupancy.taken (Big c) h
  taken Root h = refl

  stands_with : StandsOpened memory b.shape b.pool stop
  stands_with = (
    opening_of b,
    opened_stands (opening_of b) fixed (generation_of b) b.runs.items zones refl refl refl pages count taken
        (opens (opening_of b) (memory_of memory) fixed (generation_of b) record {
          start = opened_starts (opening_of b) fixed stop b.runs.items zones one (λ k. refl) (λ k. refl) (λ k. refl);
          size = can.size;
          small = can.small;
          retired = can.retired;
        } can.whole taken),
  )

  pub solo_stands : (all : List ℕ) → all ≡ zones
      → StandsOpened (opened_with b.words.items stop b.runs.items all) b.shape b.pool stop
  solo_stands all e =
      subst (λ (z : List ℕ).
      StandsOpened (opened_with b.words.items stop b.runs.items z) b.shape b.pool stop)
      (sym e) stands_with
