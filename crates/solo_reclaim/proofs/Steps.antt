-- Steps of a reclaim, one after another, and what stays as it was behind them.
use Rattle.std.proofs.Common.{◌≡◌, ◌≢◌, ⊎_elim, ℕ, ◌/◌, ◌^◌, ◌<◌, Bool, not, cond, eqb, eq-eqb, bit_and, Contains, List, [], ◌∷◌, ◌++◌, true, length, map, set, slice_index, refl, sym, ap, ◌∙◌, subst}
use Rattle.std.specs.Int.{bit_at, bit_not, w64}
use Rattle.std.proofs.lemmas.Bool.{cases_eq, false≢true}
use Rattle.std.proofs.lemmas.List.{get_or-set_other, get_or-set_same, set-get_or}
use Rattle.std.proofs.lemmas.List.Elements.{All-append, All-cons, All-contains_itself, All-nil, All-weaker}
use Rattle.pm_layout.specs.declared.shape.Shape.{Shape}
use Rattle.solo_view.specs.declared.occ.Occ.{Occ}
use Rattle.solo_view.specs.declared.occ.Occ.TheVariants.{Run, Zone}
use Rattle.solo_view.specs.Founds.{FoundAlone}
use Rattle.solo_view.specs.Occupancy.{is_taken}
use Rattle.solo_view.specs.Steps.{Step}
use Rattle.solo_view.specs.Steps.Step.{Load, Occupied, Vacate}
use Rattle.solo_view.specs.View.{Lock, Taken, View}
use Rattle.solo_view.specs.Views.{after, exchanged, is_same_occ, occ_in, runs_with, vacated_word, with_block, without_taken, zones_with}
use Rattle.solo_world.specs.Heap.{IsOcc}
use Rattle.solo_world.specs.Lawful.{HasOcc, MayVacate}
use Rattle.solo_world.proofs.StepGive.{filter-passed}
use Rattle.solo_world.proofs.Vacated.{and_bits, vacated_all, vacated_small}
use Rattle.pm_image.specs.declared.block.Block.{Block}
use Rattle.solo_reclaim.specs.KeptBlocks.{IsKeptBit}
use Rattle.solo_reclaim.specs.KnownTaken.{KnowsTaken}
use Rattle.solo_crash.specs.Leading.{Leads}
use Rattle.solo_reclaim.proofs.GivingBack.{IsPictured, giving_keeps, is_pictured, unmade}
use Rattle.solo_crash.proofs.Leading.{leads_then}
use Rattle.solo_reclaim.specs.Reclaims.{AreOfPool, IsReclaiming, MayReclaim, Reclaims, RestsAlone, TellsLeft, TellsTaken}

-- ---- no step, one step, and more

leads_none : (v : View) → Leads v [] v
unfolding Leads
leads_none v = refl

pub reclaims_none : (v : View) → KnowsTaken v → Reclaims v v
reclaims_none v taken = record { steps = []; leads = leads_none v; only = All-nil IsReclaiming; same = refl; less = λ at bit one. one; taken = taken; reserved = λ all. all; freed = λ all. all }

of_pool_as : (lanes others zones more : ℕ) → lanes ≡ others → zones ≡ more → (blocks : List Taken) → AreOfPool lanes zones blocks → AreOfPool others more blocks
of_pool_as lanes others zones more same_lanes same_zones blocks all = subst (λ n. AreOfPool others n blocks) same_zones (subst (λ n. AreOfPool n zones blocks) same_lanes all)

pub reclaims_then : (u v w : View) → Reclaims u v → Reclaims v w → Reclaims u w
reclaims_then u v w first second = record {
  steps = first.steps ++ second.steps;
  leads = leads_then u v w first.steps second.steps first.leads second.leads;
  only = All-append IsReclaiming first.steps second.steps first.only second.only;
  same = second.same ∙ ap (λ (z : View). record z { run_words = w.run_words; zone_words = w.zone_words; known = w.known; reserved = w.reserved; freed = w.freed; seen = w.seen }) first.same;
  less = λ at bit one. first.less at bit (second.less at bit one);
  taken = second.taken;
  reserved = λ all. of_pool_as v.lanes u.lanes v.zones u.zones (ap (λ (z : View). z.lanes) first.same) (ap (λ (z : View). z.zones) first.same) w.reserved
      (second.reserved (of_pool_as u.lanes v.lanes u.zones v.zones (sym (ap (λ (z : View). z.lanes) first.same)) (sym (ap (λ (z : View). z.zones) first.same)) v.reserved (first.reserved all)));
  freed = λ all. of_pool_as v.lanes u.lanes v.zones u.zones (ap (λ (z : View). z.lanes) first.same) (ap (λ (z : View). z.zones) first.same) w.freed
      (second.freed (of_pool_as u.lanes v.lanes u.zones v.zones (sym (ap (λ (z : View). z.lanes) first.same)) (sym (ap (λ (z : View). z.zones) first.same)) v.freed (first.freed all)));
}

-- ---- looks

-- of what the lane saw, and of which words it knows, what is taken says nothing
knows_beside : (v : View) (known : List ℕ) (seen : List Step) → KnowsTaken v → KnowsTaken (record v { known = known; seen = seen })
knows_beside v known seen knows = record { pages = knows.pages; zone_count = knows.zone_count; bits = knows.bits; apart = knows.apart; once = knows.once }

occ_beside : (v : View) (known : List ℕ) (seen : List Step) (at : Occ) → occ_in (record v { known = known; seen = seen }) at ≡ occ_in v at
occ_beside v known seen (Run place) = refl
occ_beside v known seen (Zone zone) = refl

-- a step to a view that is the other but for those
reclaims_seen : (v w : View) (s : Step) → KnowsTaken v → Leads v (s ∷ []) w → IsReclaiming s → w ≡ record v { known = w.known; seen = w.seen } → Reclaims v w
reclaims_seen v w s knows leads is same = record {
  steps = s ∷ [];
  leads = leads;
  only = All-cons IsReclaiming s [] is (All-nil IsReclaiming);
  same = same ∙ ap (λ (z : View). record v { run_words = z.run_words; zone_words = z.zone_words; known = w.known; reserved = z.reserved; freed = z.freed; seen = w.seen }) (sym same);
  less = λ at bit one. ap (λ n. bit_at n bit) (sym (occ_beside v w.known w.seen at)) ∙ (ap (λ (z : View). bit_at (occ_in z at) bit) (sym same) ∙ one);
  taken = subst KnowsTaken (sym same) (knows_beside v w.known w.seen knows);
  reserved = λ all. subst (AreOfPool v.lanes v.zones) (ap (λ (z : View). z.reserved) (sym same)) all;
  freed = λ all. subst (AreOfPool v.lanes v.zones) (ap (λ (z : View). z.freed) (sym same)) all;
}

-- a load of a lane alone that has no line locked
pub load_same : (v : View) (w found : ℕ) → found ≡ slice_index v.words w → v.locks ≡ [] → after v (Load w found) ≡ record v { known = (after v (Load w found)).known; seen = v.seen ++ Load w found ∷ [] }
load_same v w found is free =
    let u : View = after v (Load w found) in
    let words : set v.words w found ≡ v.words = ap (set v.words w) is ∙ set-get_or v.words w 0 in
    let locks : map (with_block v.lanes (set v.words w found) w) v.locks ≡ v.locks = ap (map (with_block v.lanes (set v.words w found) w)) free ∙ sym free in
    ap (λ (ws : List ℕ). record u { words = ws }) words ∙ ap (λ (ls : List Lock). record u { words = v.words; locks = ls }) locks

pub reclaims_load : (v : View) (w found : ℕ) → RestsAlone v → w < length v.words → FoundAlone v (Load w found) → Reclaims v (after v (Load w found))
unfolding Leads
reclaims_load v w found rests inside alone =
    reclaims_seen v (after v (Load w found)) (Load w found) rests.taken (inside, alone, tt, refl) tt (load_same v w found (alone rests.alone) rests.free)

same_runs : (v : View) (at : Occ) → runs_with at (occ_in v at) v.run_words ≡ v.run_words
same_runs v (Run place) = set-get_or v.run_words (place / 4096) 0
same_runs v (Zone zone) = refl

same_zones : (v : View) (at : Occ) → zones_with at (occ_in v at) v.zone_words ≡ v.zone_words
same_zones v (Run place) = refl
same_zones v (Zone zone) = set-get_or v.zone_words zone 0

-- the word that was looked at is as before
pub occ_looked : (v : View) (at : Occ) (found : ℕ) → found ≡ occ_in v at → occ_in (after v (Occupied at found)) at ≡ found
occ_looked v (Run place) found is = ap (λ (ws : List ℕ). slice_index ws (place / 4096)) (ap (set v.run_words (place / 4096)) is ∙ set-get_or v.run_words (place / 4096) 0) ∙ sym is
occ_looked v (Zone zone) found is = ap (λ (ws : List ℕ). slice_index ws zone) (ap (set v.zone_words zone) is ∙ set-get_or v.zone_words zone 0) ∙ sym is

-- a look at an occupancy word of a lane alone
pub look_same : (v : View) (at : Occ) (found : ℕ) → found ≡ occ_in v at → after v (Occupied at found) ≡ record v { seen = v.seen ++ Occupied at found ∷ [] }
look_same v at found is =
    let u : View = after v (Occupied at found) in
    ap (λ (ws : List ℕ). record u { run_words = ws }) (ap (λ n. runs_with at n v.run_words) is ∙ same_runs v at)
    ∙ ap (λ (ws : List ℕ). record u { run_words = v.run_words; zone_words = ws }) (ap (λ n. zones_with at n v.zone_words) is ∙ same_zones v at)

pub reclaims_look : (v : View) (at : Occ) (found : ℕ) → RestsAlone v → HasOcc v at → FoundAlone v (Occupied at found) → Reclaims v (after v (Occupied at found))
unfolding Leads
reclaims_look v at found rests there alone =
    reclaims_seen v (after v (Occupied at found)) (Occupied at found) rests.taken (there, alone, tt, refl) tt (look_same v at found (alone rests.alone))

-- ---- bits given back

-- a bit that is set in words of which one was vacated was set before
less_of : (words : List ℕ) (i k bits bit : ℕ) → i < length words → bit_at (slice_index (set words i (vacated_word bits (slice_index words i))) k) bit ≡ 1 → bit_at (slice_index words k) bit ≡ 1
less_of words i k bits bit low one = ⊎_elim
    (λ (same : k ≡ i). ap (λ n. bit_at (slice_index words n) bit) same
    ∙ (and_bits (slice_index words i) (bit_not w64 bits) bit (ap (λ n. bit_at n bit) (sym (get_or-set_same words i (vacated_word bits (slice_index words i)) 0 low))
    ∙ (ap (λ n. bit_at (slice_index (set words i (vacated_word bits (slice_index words i))) n) bit) (sym same) ∙ one))).0)
    (λ (other : k ≢ i). ap (λ n. bit_at n bit) (sym (get_or-set_other words i k (vacated_word bits (slice_index words i)) 0 other)) ∙ one)
    (cases_eq k i)

less_vacated : (v : View) (at other : Occ) (bits bit : ℕ) → IsPictured v at → bit_at (occ_in (after v (Vacate at bits)) other) bit ≡ 1 → bit_at (occ_in v other) bit ≡ 1
less_vacated v (Run place) (Run second) bits bit low one = less_of v.run_words (place / 4096) (second / 4096) bits bit low one
less_vacated v (Run place) (Zone second) bits bit low one = one
less_vacated v (Zone zone) (Run second) bits bit low one = one
less_vacated v (Zone zone) (Zone second) bits bit low one = less_of v.zone_words zone second bits bit low one

-- what is left of blocks is of the pool as they were
pub left_of_pool : (at : Occ) (bits lanes zones : ℕ) → bits < 2 ^ 64 → (blocks : List Taken) → AreOfPool lanes zones blocks → AreOfPool lanes zones (without_taken at bits blocks)
left_of_pool at bits lanes zones small blocks all = record {
  of_pool = vacated_all at bits small (IsOcc lanes zones) blocks all.of_pool;
  small = vacated_small at bits small blocks all.small;
  some =
      let left : List Taken = without_taken at bits blocks in
      let is_some : Taken → Bool = λ t. not (eqb t.bits 0) in
      let given : Taken → Taken = λ t. cond (is_same_occ at t.at) (record t { bits = bit_and t.bits (bit_not w64 bits) }) t in
      All-weaker (Contains left) (λ (t : Taken). t.bits ≢ 0) (λ t there none. false≢true (sym (ap not (eq-eqb t.bits 0 none)) ∙ filter-passed is_some (map given blocks) t there)) left (All-contains_itself left);
}

pub reclaims_vacate : (v : View) (at : Occ) (bits : ℕ) → KnowsTaken v → MayVacate v at bits → Reclaims v (after v (Vacate at bits))
unfolding Leads
reclaims_vacate v at bits knows may = record {
  steps = Vacate at bits ∷ [];
  leads = (may, tt, tt, refl);
  only = All-cons IsReclaiming (Vacate at bits) [] tt (All-nil IsReclaiming);
  same = refl;
  less = λ other bit one. less_vacated v at other bits bit (is_pictured v at knows may.there) one;
  taken = giving_keeps v (Vacate at bits) knows may tt;
  reserved = λ all. left_of_pool at bits v.lanes v.zones may.small (exchanged v at) (subst (AreOfPool v.lanes v.zones) (sym (unmade v at bits knows may at may.there.of_pool)) all);
  freed = λ all. left_of_pool at bits v.lanes v.zones may.small v.freed all;
}

-- ---- what stays

module _ (v w : View) (reclaims : Reclaims v w) where
  pub same_words : w.words ≡ v.words
  same_words = ap (λ (z : View). z.words) reclaims.same

  pub same_lanes : w.lanes ≡ v.lanes
  same_lanes = ap (λ (z : View). z.lanes) reclaims.same

  pub same_zone_count : w.zones ≡ v.zones
  same_zone_count = ap (λ (z : View). z.zones) reclaims.same

  pub rests_still : RestsAlone v → RestsAlone w
  rests_still rests = record {
    alone = ap (λ (z : View). z.table) reclaims.same ∙ rests.alone;
    idle = ap (λ (z : View). z.log) reclaims.same ∙ rests.idle;
    drained = ap (λ (z : View). z.changes) reclaims.same ∙ rests.drained;
    free = ap (λ (z : View). z.locks) reclaims.same ∙ rests.free;
    taken = reclaims.taken;
  }

  pub may_still : (shape : Shape) → MayReclaim v shape → MayReclaim w shape
  may_still shape may = record {
    rests = rests_still may.rests;
    of_shape = record { lanes = same_lanes ∙ may.of_shape.lanes; zones = same_zone_count ∙ may.of_shape.zones; size = ap length same_words ∙ may.of_shape.size };
  }

  abbrev beside : View
  beside = record v { run_words = w.run_words; zone_words = w.zone_words; known = w.known; reserved = w.reserved; freed = w.freed; seen = w.seen }

  has_beside : (at : Occ) → HasOcc v at → HasOcc beside at
  has_beside (Run place) there = record { of_pool = there.of_pool; inside = there.inside }
  has_beside (Zone zone) there = record { of_pool = there.of_pool; inside = there.inside }

  pub there_still : (at : Occ) → HasOcc v at → HasOcc w at
  there_still at there = subst (λ (z : View). HasOcc z at) (sym reclaims.same) (has_beside at there)

  pub of_pool_before : (at : Occ) → IsOcc w.lanes w.zones at → IsOcc v.lanes v.zones at
  of_pool_before at of = subst (λ n. IsOcc v.lanes n at) same_zone_count (subst (λ n. IsOcc n w.zones at) same_lanes of)

  pub tells_still : (at : Occ) (word : ℕ) → TellsTaken v at word → TellsTaken w at word
  tells_still at word tells = subst (λ (z : View). TellsTaken z at word) (sym reclaims.same) tells

  pub left_still : (kept : List Block) (at : Occ) (word : ℕ) → TellsLeft kept v at word → TellsLeft kept w at word
  left_still kept at word tells = subst (λ (z : View). TellsLeft kept z at word) (sym reclaims.same) tells

  pub kept_still : (kept : List Block) (at : Occ) (bit : ℕ) → IsKeptBit v.lanes kept at bit → IsKeptBit w.lanes kept at bit
  kept_still kept at bit is = subst (λ n. IsKeptBit n kept at bit) (sym same_lanes) is

  pub kept_before : (kept : List Block) (at : Occ) (bit : ℕ) → IsKeptBit w.lanes kept at bit → IsKeptBit v.lanes kept at bit
  kept_before kept at bit is = subst (λ n. IsKeptBit n kept at bit) same_lanes is

  pub taken_still : (at : Occ) (bit : ℕ) → is_taken (slice_index v.words) v.lanes at bit ≡ true → is_taken (slice_index w.words) w.lanes at bit ≡ true
  taken_still at bit taken = subst (λ (z : View). is_taken (slice_index z.words) z.lanes at bit ≡ true) (sym reclaims.same) taken
