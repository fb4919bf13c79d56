-- FROM THE ROOMS OF A SCRIPT'S LANES to their works, and from what the works did to the run.
use Rattle.std.proofs.Common.{◌≡◌, inl, ℕ, ◌+◌, ◌<◌, ◌≤◌, ◌==◌, if◌then◌else◌, Bool, true, false, All, List, [], ◌∷◌, ◌++◌, length, map, get_or, slice_index, Option, Some, None, refl, sym, ap, ◌∙◌, subst, arith, length-append}
use Rattle.std.specs.Option.{option_map_or}
use Rattle.std.proofs.lemmas.Bool.{ltb-true, ltb-false}
use Rattle.std.proofs.Math.ListN.{get_or-append}
use Rattle.std.proofs.Math.Seq.{get_or-append_seam}
use lib.Dec.{ltb}
use Rattle.pm_image.specs.Logs.{recovered_at}
use Rattle.pm_lanes.specs.Opens.{IsOpened}
use Rattle.pm_objects.specs.declared.pool.PoolView.{PoolView}
use Rattle.pm_root.specs.Root.{id_of}
use Rattle.pm_script.specs.declared.script.ScriptLine.{ScriptLine}
use Rattle.pm_shared.specs.declared.rule.Beginning.{Beginning}
use Rattle.pm_run.specs.Runs.{HaveRun}
use Rattle.pm_calls.specs.Calls.{calls_of_lane, null_id}
use Rattle.pm_calls.specs.LaneRooms.{AreRoomsFor, lines_to_run}
use Rattle.pm_calls.specs.declared.lanes.LaneRoom.{LaneRoom}
use Rattle.pm_calls.specs.declared.names.Names.{Names}
use Rattle.pm_exec.specs.Entries.{HaveAllNumbers}
use Rattle.pm_exec.specs.Made.{AreToBeMade, CallsMayBeMade}
use Rattle.pm_exec.specs.Reports.{AreWorksFor, AreWorksOf, HasCalls, HaveLines, IsWorkFor, IsWorkOf, all_entries}
use Rattle.pm_exec.specs.Runs.{names_of}
use Rattle.pm_exec.specs.Works.{CanRunWork, DidCalls, WorkLeft}
use Rattle.pm_exec.specs.declared.work.LaneWork.{LaneWork}
use Rattle.pm_exec.proofs.Ran.{PoolLaws, first_item, have_lines, have_numbers}

-- ---- THE NAMES

-- by a word, the id of a root that it gives
id_by : (pool word : ℕ) (b : Bool)
    → (if b then null_id else record { pool = pool; off = word })
    ≡ option_map_or (λ (off : ℕ). record { pool = pool; off = off })
    (if b then None else Some word) null_id
id_by pool word true = refl
id_by pool word false = refl

-- names by the id and the root word that lanes begin with are those of the pool that was opened
pub opened_names : (origin layout : List ℕ) (b : Beginning)
    (opened : IsOpened origin layout b.words.items b.shape b.pool) (names : Names)
    → names.pool ≡ b.pool → names.root ≡ id_of b.pool (slice_index b.words.items 64)
    → names ≡ names_of opened.pool
opened_names origin layout b opened names of_pool of_root =
    let meant = opened.means in
    let lanes : opened.pool.lanes ≡ meant.lanes = ap (λ (p : PoolView). p.lanes) meant.is_pool in
    let word : slice_index b.words.items 64 ≡ recovered_at origin meant.lanes 64 =
    opened.recovered.words 64 (inl (omega arith))
    ∙ ap (λ (n : ℕ). recovered_at origin n 64) lanes in
    let is = recovered_at origin meant.lanes 64 in
    let root : names.root ≡ (names_of opened.pool).root =
    of_root ∙ (λ i. id_of (opened.of_id i) (word i))
    ∙ id_by opened.pool.id is (is == 0)
    ∙ ap (λ (r : Option ℕ). option_map_or (λ (off : ℕ). record { pool = opened.pool.id; off = off })
    r null_id) (sym (ap (λ (p : PoolView). p.root) meant.is_pool)) in
    λ i. record { pool = (of_pool ∙ opened.of_id) i; root = root i }

-- ---- ONE MORE WORK

module _ {G : Type 0} (names : Names) where
  pub no_works : AreWorksOf {G = G} names [] []
  no_works = record { count = refl; each = λ k r w low. absurd (omega (arith, low)) }

  pub one_more_of : (rooms : List LaneRoom) (works : List (LaneWork G)) (room : LaneRoom) (work : LaneWork G) → IsWorkOf names (length works) room work
      → AreWorksOf names rooms works → AreWorksOf names (rooms ++ room ∷ []) (works ++ work ∷ [])
  one_more_of rooms works room work is are = record {
    count = length-append works (work ∷ []) ∙ ap (λ n. n + 1) are.count ∙ sym (length-append rooms (room ∷ []));
    each = λ k r w low. at k r w low (ltb k (length works)) refl;
  }
    where
      at : (k : ℕ) (r : LaneRoom) (w : LaneWork G) → k < length (works ++ work ∷ []) → (b : Bool) → ltb k (length works) ≡ b
          → IsWorkOf names k (get_or (rooms ++ room ∷ []) k r) (get_or (works ++ work ∷ []) k w)
      at k r w low true less =
          let here : k < length works = ltb-true k (length works) less in
          let count = are.count in
          subst (λ (x : LaneRoom). IsWorkOf names k x (get_or (works ++ work ∷ []) k w)) (sym (get_or-append rooms (room ∷ []) r k (omega (arith, here, count))))
          (subst (λ (x : LaneWork G). IsWorkOf names k (get_or rooms k r) x) (sym (get_or-append works (work ∷ []) w k here)) (are.each k r w here))
      at k r w low false least =
          let high : length works ≤ k = ltb-false k (length works) least in
          let long = length-append works (work ∷ []) in
          let last : length works ≡ k = omega (arith, high, long, low) in
          subst (λ n. IsWorkOf names n (get_or (rooms ++ room ∷ []) n r) (get_or (works ++ work ∷ []) n w)) last
          (subst (λ (x : LaneRoom). IsWorkOf names (length works) x (get_or (works ++ work ∷ []) (length works) w))
          (sym (ap (λ n. get_or (rooms ++ room ∷ []) n r) are.count ∙ get_or-append_seam rooms room [] r))
          (subst (λ (x : LaneWork G). IsWorkOf names (length works) room x) (sym (get_or-append_seam works work [] w)) is))

  pub have_calls : (rooms : List LaneRoom) (works : List (LaneWork G)) → AreWorksOf names rooms works → All HasCalls works
  have_calls [] works are k w low = let count = are.count in absurd (omega (arith, count, low))
  have_calls (r ∷ rooms) works are k w low =
      let is : (get_or works k w).calls ≡ Some (get_or (r ∷ rooms) k r).calls = (are.each k r w low).calls in
      λ none. cc

  -- and can run
  pub can_run : (rooms : List LaneRoom) (works : List (LaneWork G)) → AreWorksOf names rooms works
      → All CallsMayBeMade rooms → All CanRunWork works
  can_run [] works are made k w low = let count = are.count in absurd (omega (arith, count, low))
  can_run (r ∷ rooms) works are made k w low =
      let is = are.each k r w low in
      let count = are.count in
      subst (λ calls. AreToBeMade calls (get_or works k w).answers) (sym is.calls)
      (is.none, is.room_is, made k r (omega (arith, count, low)))

  for_lane : (script : List ScriptLine) (k : ℕ) (room : LaneRoom) (work : LaneWork G) → IsWorkOf names k room work → map lines_to_run room.calls.items ≡ calls_of_lane k script → IsWorkFor names script k work
  for_lane script k room work is lines = record {
    number = is.number;
    names_are = is.names_are;
    lines = ap (λ (c : _). option_map_or (λ calls. map lines_to_run calls.items) c []) is.calls ∙ lines;
  }

  pub works_for : (script : List ScriptLine) (lanes : ℕ) (rooms : List LaneRoom) (works : List (LaneWork G)) → AreRoomsFor script lanes rooms → AreWorksOf names rooms works → AreWorksFor names script lanes works
  works_for script lanes [] works are_rooms are k w low = let count = are_rooms.count in absurd (omega (arith, count, low))
  works_for script lanes (r ∷ rooms) works are_rooms are k w low =
      let count = are_rooms.count in
      let long = are.count in
      for_lane script k (get_or (r ∷ rooms) k r) (get_or works k w) (are.each k r w (omega (arith, count, long, low))) (are_rooms.each k r low)

-- ---- WHAT THE WORKS DID

module _ {G : Type 0} (b : Beginning) (keep : ℕ) (before after : List (LaneWork G)) (image : List ℕ) (flags : List Bool)
    (ran : HaveRun WorkLeft b keep before after image flags) (count : length before ≡ b.lanes) (calls : All HasCalls before) where
  pub did_calls : (k : ℕ) (w : LaneWork G) (low : k < b.lanes) → DidCalls (get_or before k w) (get_or after k w) (ran.each k w low).view
  did_calls k w low = (ran.each k w low).work_says (calls k w (omega (arith, low, count)))

  module _ {names : Names} (laws : PoolLaws) (script : List ScriptLine)
      (works : AreWorksFor names script b.lanes before) where
    pub all_have_lines : All HaveLines after
    all_have_lines k w low =
        have_lines laws b keep script before after image flags ran works w (λ j l. did_calls j w l) k (let n = ran.works in omega (arith, n, low))

    pub all_have_numbers : HaveAllNumbers (all_entries flags after)
    all_have_numbers =
        let w = first_item after (let s = ran.closed.world.some_lanes in let n = ran.works in omega (arith, s, n)) in
        have_numbers laws b keep script before after image flags ran works w (λ j l. did_calls j w l) image flags ran.survives ran.judged
