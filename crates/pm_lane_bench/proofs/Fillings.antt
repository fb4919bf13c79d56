-- What a lane that changes words of the pool's first chunk may do, and what it is then; and steps of a table whose rule says nothing.
use Rattle.std.proofs.Common.{◌≡◌, ℕ, ◌+◌, ◌^◌, ◌<◌, ◌≤◌, ◌==◌, Bool, true, false, not, cond, ◌&&◌, List, [], ◌∷◌, length, None, Some, refl, sym, ap, ◌∙◌, subst, arith}
use Rattle.std.specs.Bool.{OnTrue}
use Rattle.std.specs.List.{list_any}
use Rattle.atomic_table.specs.Table.{Me, keeps, Allows}
use Rattle.pm_layout.specs.Chunks.{word_of_chunk}
use Rattle.pm_layout.specs.declared.shape.Shape.{Shape}
use Rattle.pm_memory.specs.Runs.{AnyStep, Made}
use Rattle.pm_plan.specs.Notes.{DrainedTo, HasNoted, Valued}
use Rattle.pm_plan.proofs.Notes.{class_same, first_same, making_same, mine_same}
use Rattle.pm_shared.specs.declared.rule.Beginning.{Beginning}
use Rattle.pm_shared.specs.Openings.{idle_view}
use Rattle.pm_shared.specs.Seats.{Seated, IsSeen, IsAllowed}
use Rattle.pm_view.specs.Bits.{all_bits}
use Rattle.pm_view.specs.Changes.{Undrained, is_in_line, mark, flushed, drained}
use Rattle.pm_view.specs.Claims.{Drained, Reserved, block_in, class, first, is_block_of, making, mine, passes, pictured}
use Rattle.pm_view.specs.Counts.{FlushesSome, DropsSome, MayCount}
use Rattle.pm_view.specs.Founds.{Found}
use Rattle.pm_view.specs.Log.{Phase, Idle, is_early, log_drained, log_stored, place_at}
use Rattle.pm_view.specs.Parts.{Part, ChunkPart, part_of, pool_part, place_in, chunk_place}
use Rattle.pm_view.specs.Places.{InHuge, Big}
use Rattle.pm_view.specs.Steps.{Step}
use Rattle.pm_view.specs.Steps.Step.{Store, Flush, Drain, ZoneTry, Occupy}
use Rattle.pm_view.specs.View.{View, Constants}
use Rattle.pm_view.specs.Views.{after, part_in, value_in, was_in, marked_by, changed_from, decided_by, drained_to}
use Rattle.pm_view.specs.declared.occ.Occ.TheVariants.{Zone}
use Rattle.pm_world.proofs.WordPlaces.{chunk_part}
use Rattle.pm_world.specs.Lawful.{Allowed, MayFill, StoreFits}
use Rattle.pm_lane_bench.specs.Lanes.{AreOfSecondLine, CanReserve, Fills, HasChunk, OwnsChunk, with_chunk}

-- ---- TABLES whose rule says nothing
pub any_step : (slots id : ℕ) (me : Me ℕ (Unit {0})) (i : ℕ) (f : ℕ → ℕ) → Allows (λ _. Unit {0}) slots id me i f (λ _ _. Unit {0})
any_step slots id me i f s holds homes here fits = (tt, keeps, tt, tt, tt)

-- ---- THE WORD
pool_word : (sh : Shape) → sh.lanes ≡ 2 → pool_part sh 3080 ≡ ChunkPart 0 8
pool_word sh two = let from = sh.zones_from in let e : 3080 ≡ word_of_chunk sh 0 + 8 = omega (arith, two) in ap (pool_part sh) e ∙ chunk_part sh 0 8 (omega arith) (omega (arith, from))

-- of the first lane no word of its own, which computes
data_part : (sh : Shape) → sh.lanes ≡ 2 → part_of sh 0 3080 ≡ ChunkPart 0 8
data_part sh two = pool_word sh two

module _ (v : View) (h : HasChunk v) where
  part_is : part_in v 3080 ≡ ChunkPart 0 8
  part_is = ap (λ k. part_of v.fixed.shape k 3080) h.lane_is ∙ data_part v.fixed.shape h.two_lanes

  pub place_is : place_at v.fixed.shape (class v.claims) 3080 ≡ Some (InHuge 0 8)
  place_is = ap (place_in (class v.claims)) (pool_word v.fixed.shape h.two_lanes) ∙ ap (λ cl. Some (chunk_place cl 0 8)) h.no_run

  pub own_block : mine v.fixed.shape v.claims (Big (first v.fixed.shape v.claims 0)) ≡ true
  own_block = ap (λ f. mine v.fixed.shape v.claims (Big f)) h.from_itself ∙ h.own

  -- claims that tell nothing new of blocks leave the chunk
  pub chunk_noted : (w : View) → w.fixed ≡ v.fixed → HasNoted v w → HasChunk w
  chunk_noted w same n = record {
    two_lanes = ap (λ (f : Constants). f.shape.lanes) same ∙ h.two_lanes;
    lane_is = ap (λ (f : Constants). f.lane) same ∙ h.lane_is;
    no_run = ap (λ t. class t 0) n.are
        ∙ (ap (λ (of : ℕ → ℕ). of 0) (class_same n.notes v.claims) ∙ h.no_run);
    unmaking = λ c. ap (λ (f : Constants). making f.shape w.claims c) same
        ∙ (ap (λ t. making v.fixed.shape t c) n.are
        ∙ making_same v.fixed.shape n.notes v.claims n.each h.unmaking c);
    own = ap (λ (f : Constants). mine f.shape w.claims (Big 0)) same
        ∙ (ap (λ t. mine v.fixed.shape t (Big 0)) n.are
        ∙ (mine_same v.fixed.shape n.notes v.claims n.each (Big 0) ∙ h.own));
    from_itself = ap (λ (f : Constants). first f.shape w.claims 0) same
        ∙ (ap (λ t. first v.fixed.shape t 0) n.are
        ∙ (ap (λ (of : ℕ → ℕ). of 0) (first_same v.fixed.shape n.notes v.claims) ∙ h.from_itself));
  }

module _ (v : View) (o : OwnsChunk v) where
  may_fill : MayFill v 3080
  may_fill = record {
    place = InHuge 0 8;
    at = place_is v o.chunk;
    plain = refl;
    own = own_block v o.chunk;
    unentered = o.unentered;
  }

  store_fits : (x : ℕ) → StoreFits v 3080 x v.log.phase (part_in v 3080)
  store_fits x = subst (λ (ph : Phase). StoreFits v 3080 x ph (part_in v 3080)) (sym o.idle) (subst (λ (p : Part). StoreFits v 3080 x Idle p) (sym (part_is v o.chunk)) may_fill)

  -- the view after a store
  abbrev filled : ℕ → View
  filled x = changed_from (Store 3080 x) v 3080 all_bits (was_in v 3080) x v.claims v.log

  filled_is : (x : ℕ) → after v (Store 3080 x) ≡ filled x
  filled_is x = ap (λ (ph : Phase). go ph (part_in v 3080)) o.idle ∙ ap (go Idle) (part_is v o.chunk)
    where
      go : Phase → Part → View
      go ph p = changed_from (Store 3080 x) v 3080 all_bits (was_in v 3080) x (marked_by ph p x v.claims) (log_stored v.fixed.shape (class v.claims) ph p x v.log)

  pub owns_filled : (x : ℕ) → OwnsChunk (filled x)
  owns_filled x = record { chunk = chunk_noted v o.chunk (filled x) refl (record { notes = Valued 3080 x ∷ []; are = refl; each = (tt, tt) }); idle = o.idle; unentered = o.unentered }

  -- the view after a drain that leaves nothing
  abbrev emptied : View
  emptied = record v { claims = Drained [] ∷ v.claims; changes = []; calls = Drain ∷ v.calls }

  emptied_is : drained v.changes ≡ [] → after v Drain ≡ emptied
  emptied_is none = ap (drained_to v) none ∙ ap go o.idle
    where
      go : Phase → View
      go ph = record v { claims = decided_by ph v.log.entries (Drained [] ∷ v.claims); changes = []; calls = Drain ∷ v.calls; log = log_drained ph v.log }

  owns_emptied : OwnsChunk emptied
  owns_emptied = record { chunk = chunk_noted v o.chunk emptied refl (record { notes = DrainedTo [] ∷ []; are = refl; each = (o.chunk.unmaking, tt) }); idle = o.idle; unentered = o.unentered }

-- ---- STORES
-- a counted step was made
abbrev pub Done : Seated → Seated → Step → Type 0
Done s new step = (v : View) → IsSeen s v → AnyStep v step → IsSeen new (after v step) × Found v step × MayCount v

pub may_store : (s : Seated) (n x : ℕ) → n < 512 → x < 2 ^ 64 → Fills s n → IsAllowed s (Store 3080 x)
may_store s n x few small f = let two = f.owns.chunk.two_lanes in let count = f.count in
    record { view = f.view; seen = f.seen; allowed = record { inside = omega (arith, two); room = omega (arith, count, few); small = small; fits = store_fits f.view f.owns x } }

pub stored : (s new : Seated) (n x : ℕ) → Fills s n → Done s new (Store 3080 x) → Fills new (n + 1)
stored s new n x f made = let m = made f.view f.seen tt in let count = f.count in record {
  view = filled f.view f.owns x;
  seen = subst (IsSeen new) (filled_is f.view f.owns x) m.0;
  owns = owns_filled f.view f.owns x;
  count = omega (arith, count);
  unflushed = (refl, refl, f.unflushed);
}

-- ---- THE FLUSH AND THE DRAIN
flushes : (changes : List Undrained) → 1 ≤ length changes → AreOfSecondLine changes → FlushesSome 385 changes
flushes [] some all = absurd (omega arith)
flushes (c ∷ changes) some all = (0, c, some, refl, (all.0, all.1))

drops : (c : Undrained) → is_in_line 385 c ≡ true → (mark 385 c).flushed ≡ true
drops c here = ap (λ t. (cond t (record c { flushed = true }) c).flushed) here

drops_some : (changes : List Undrained) → 1 ≤ length changes → AreOfSecondLine changes → DropsSome (flushed 385 changes)
drops_some [] some all = absurd (omega arith)
drops_some (c ∷ changes) some all = (0, mark 385 c, omega arith, refl, drops c all.0)

none_left : (changes : List Undrained) → AreOfSecondLine changes → drained (flushed 385 changes) ≡ []
none_left [] all = refl
none_left (c ∷ changes) all = ap (λ t. cond (not t) (mark 385 c ∷ drained (flushed 385 changes)) (drained (flushed 385 changes))) (drops c all.0) ∙ none_left changes all.2

-- the line is flushed
pub record Marks (s : Seated) : Type 0 where
  pub view : View
  pub seen : IsSeen s view
  pub owns : OwnsChunk view
  pub some : DropsSome view.changes
  pub none : drained view.changes ≡ []

pub may_flush : (s : Seated) (n : ℕ) → 1 ≤ n → Fills s n → IsAllowed s (Flush 385)
may_flush s n some f = let count = f.count in record { view = f.view; seen = f.seen; allowed = flushes f.view.changes (omega (arith, count, some)) f.unflushed }

pub marked : (s new : Seated) (n : ℕ) → 1 ≤ n → Fills s n → Done s new (Flush 385) → Marks new
marked s new n some f made = let m = made f.view f.seen tt in let count = f.count in let o = f.owns in record {
  view = after f.view (Flush 385);
  seen = m.0;
  owns = record { chunk = chunk_noted f.view o.chunk (after f.view (Flush 385)) refl (record { notes = []; are = refl; each = tt }); idle = o.idle; unentered = o.unentered };
  some = drops_some f.view.changes (omega (arith, count, some)) f.unflushed;
  none = none_left f.view.changes f.unflushed;
}

pub may_drain : (s : Seated) → Marks s → IsAllowed s Drain
may_drain s f = record { view = f.view; seen = f.seen; allowed = f.some }

pub emptied_all : (s new : Seated) → Marks s → Done s new Drain → Fills new 0
emptied_all s new f made = let m = made f.view f.seen tt in record {
  view = emptied f.view f.owns;
  seen = subst (IsSeen new) (emptied_is f.view f.owns f.none) m.0;
  owns = owns_emptied f.view f.owns;
  count = refl;
  unflushed = tt;
}

-- ---- THE CHUNK IS RESERVED
module _ (v : View) (can : CanReserve v) where
  pub may_try : (won : Bool) → Allowed v (ZoneTry 0 won)
  may_try won = let from = v.fixed.shape.zones_from in record {
    inside = omega (arith, from);
    free = ap (list_any (λ other. other == 0)) can.unlocked;
    early = ap is_early can.idle;
  }

  pub may_occupy : (won : Bool) → Allowed (after v (ZoneTry 0 true)) (Occupy (Zone 0) 1 won)
  may_occupy won = let from = v.fixed.shape.zones_from in record {
    there = omega (arith, from);
    one = (0, 1, omega arith, omega arith, refl);
    open_ = refl;
    early = ap is_early can.idle;
  }

  pub owns_reserved : OwnsChunk (with_chunk v)
  owns_reserved = record {
    chunk = record {
      two_lanes = can.two_lanes;
      lane_is = can.lane_is;
      no_run = can.no_run;
      unmaking = can.unmaking;
      own = refl;
      from_itself = refl;
    };
    idle = can.idle;
    unentered = can.unentered;
  }

  -- a word that is no place is known as it was
  pub known_reserved : (w : ℕ) → place_at v.fixed.shape (class v.claims) w ≡ None
      → value_in (with_chunk v) w ≡ value_in v w
  known_reserved w none = ap (λ p. cond
      (passes (λ B. is_block_of v.fixed.shape (Zone 0) 1 B && not (mine v.fixed.shape v.claims B))
      (block_in v.fixed.shape (Reserved (Zone 0) 1 ∷ v.claims) p 64))
      None (pictured v.fixed.shape v.claims w)) none

pub unasked : (b : Beginning) → b.shape.lanes ≡ 2 → CanReserve (idle_view b 0)
unasked b two = record {
  two_lanes = two;
  lane_is = refl;
  idle = refl;
  unentered = refl;
  drained = refl;
  unlocked = refl;
  no_run = refl;
  unmaking = λ c. refl;
}

pub fills_none : (s : Seated) (v : View) → CanReserve v → IsSeen s (with_chunk v) → Fills s 0
fills_none s v can seen = record {
  view = with_chunk v;
  seen = seen;
  owns = owns_reserved v can;
  count = ap length can.drained;
  unflushed = subst AreOfSecondLine (sym can.drained) tt;
}

-- the chunk is reserved where the zone's lock was got and its bit
pub got_both : (may : View → Step → Type 0) (old mid new : View → Type 0)
    → ((v : View) (step : Step) → Allowed v step → may v step) → Made may old mid (ZoneTry 0 true)
    → (won : Bool) → Made may mid new (Occupy (Zone 0) 1 won)
    → OnTrue won ((v : View) → old v → CanReserve v → new (with_chunk v))
got_both may old mid new grants tried false taken = tt
got_both may old mid new grants tried true taken = λ v there can.
    let zoned : View = after v (ZoneTry 0 true) in
    (taken zoned (tried v there (grants v (ZoneTry 0 true) (may_try v can true))).0
    (grants zoned (Occupy (Zone 0) 1 true) (may_occupy v can true))).0
