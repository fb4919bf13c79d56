-- Views of a lane that makes calls of ORs: from one call to the next.
use Rattle.std.proofs.Common.{◌≡◌, zero, ℕ, suc, ◌+◌, ◌*◌, ◌<◌, ◌==◌, ◌&&◌, true, not, [], ◌∷◌, ◌++◌, replicate, None, Some, refl, sym, ap, ◌∙◌, subst, arith, eq-eqb, inl, inr, ⊎_elim}
use Rattle.std.specs.List.{AllByRecursion}
use Rattle.std.proofs.lemmas.Bool.{cond-true}
use Rattle.pm_layout.specs.declared.shape.Shape.{Shape}
use Rattle.pm_layout.specs.Areas.{greatest_generation}
use Rattle.pm_layout.specs.Chunks.{page_of_zone}
use Rattle.pm_record.specs.declared.redo.Redo.{Redo}
use Rattle.pm_record.specs.declared.redo.Op.TheVariants.{Or}
use Rattle.pm_view.specs.Claims.{becomes, mine, mine_after}
use Rattle.pm_view.specs.Entries.{first_of_two, latest, redos, turn}
use Rattle.pm_view.specs.Log.{Phase, Idle, Open, Log, new_log, is_early, next_log, place_at}
use Rattle.pm_view.specs.Places.{Block, Small, Big, Root, InHuge, Place}
use Rattle.pm_view.specs.Steps.Step.{Draw, NumberSeen}
use Rattle.pm_view.specs.View.{View, Constants}
use Rattle.pm_view.specs.Views.{after, begun, value_in, with_seen}
use Rattle.pm_world.specs.Lawful.{Allowed, MayDraw}
use Rattle.pm_world.specs.Logs.{ends_with}
use Rattle.pm_world.specs.LaneFields.{opened}
use Rattle.pm_plan.specs.Notes.{IsBeyond}
use Rattle.pm_plan.proofs.AreaParts.{place_outside}
use Rattle.pm_shared.specs.declared.rule.Beginning.{Beginning}
use Rattle.pm_shared.specs.Openings.{fixed_of}
use Rattle.pm_redo.specs.Entries.{last_made}
use Rattle.pm_redo.specs.Stages.{CanEnter, CanLog, IsLogged, IsPerformed, all_logged, decided, generation_word, seal_word}
use Rattle.pm_redo.proofs.LastMade.{last_more}
use Rattle.pm_redo.proofs.Numbered.{numbered_lawful}
use Rattle.pm_lane_bench.specs.Lanes.{HasChunk, with_chunk}
use Rattle.pm_lane_bench.specs.Calls.{AwaitsCall, CanStart, IsNumbered, or_listed, or_logged, ors_listed, ors_logged}
use Rattle.pm_lane_bench.proofs.Fillings.{chunk_noted, known_reserved, own_block, owns_reserved, place_is}

-- ---- BEFORE THE FIRST CALL
pub can_start : (b : Beginning) (generation : ℕ) → b.shape.lanes ≡ 2
    → CanStart (opened (fixed_of b 0) generation)
can_start b generation two = record {
  reserves = record {
    two_lanes = two;
    lane_is = refl;
    idle = refl;
    unentered = refl;
    drained = refl;
    unlocked = refl;
    no_run = refl;
    unmaking = λ c. refl;
  };
  log_ = record { seal = refl; generation = refl };
}

-- a word of a lane's area is no place
area_unplaced : (sh : Shape) (class : ℕ → ℕ) (w : ℕ) → 64 < w → w < 512 * page_of_zone sh 0
    → place_at sh class w ≡ None
area_unplaced sh class w some low = go (place_at sh class w) refl
  where
    go : (o : Rattle.std.specs.Prelude.Option Place) → place_at sh class w ≡ o → o ≡ None
    go None e = refl
    go (Some p) e = absurd (⊎_elim (λ (root : w ≡ 64). omega (arith, root, some))
        (λ (far : IsBeyond sh w). omega (arith, far, low)) (place_outside sh 0 w class p e))

pub awaits_first : (v : View) → CanStart v → AwaitsCall (with_chunk v)
awaits_first v can =
    let two = can.reserves.two_lanes in let lane = can.reserves.lane_is in record {
      owns = owns_reserved v can.reserves;
      drained = can.reserves.drained;
      log_ = record {
        seal = known_reserved v can.reserves (seal_word v)
            (area_unplaced v.fixed.shape _ (seal_word v) (omega (arith, lane))
            (omega (arith, lane, two))) ∙ can.log_.seal;
        generation = known_reserved v can.reserves (generation_word v)
            (area_unplaced v.fixed.shape _ (generation_word v) (omega (arith, lane))
            (omega (arith, lane, two))) ∙ can.log_.generation;
      };
    }

-- ---- A CALL IS OPENED
module _ (v : View) (a : AwaitsCall v) (n : ℕ) where
  pub may_see : Allowed v (NumberSeen n)
  may_see = ap is_early a.owns.idle

  abbrev seen : View
  seen = after v (NumberSeen n)

  abbrev open_view : View
  open_view = record v {
    log = new_log Open v.log.generation;
    seen = NumberSeen n ∷ [];
    call = [];
    number = None;
    published = [];
  }

  opened_is : seen ≡ open_view
  opened_is = ap (λ (ph : Phase). with_seen (NumberSeen n) (begun ph v)) a.owns.idle

  pub seen_fixed : seen.fixed ≡ v.fixed
  seen_fixed = ap (λ (y : View). y.fixed) opened_is

  pub seen_generation : seen.log.generation ≡ v.log.generation
  seen_generation = ap (λ (y : View). y.log.generation) opened_is

  open_chunk : HasChunk open_view
  open_chunk = chunk_noted v a.owns.chunk open_view refl
      (record { notes = []; are = refl; each = tt })

  can_enter : CanEnter open_view or_listed
  can_enter = record {
    place = InHuge 0 8;
    at = place_is open_view open_chunk;
    may = inr (refl, own_block open_view open_chunk, omega arith);
    gives = (0, omega arith, refl);
    aligned = refl;
    small = omega arith;
  }

  each : (P : Redo → Type 0) (e : Redo) (k : ℕ) → P e → AllByRecursion P (replicate k e)
  each P e zero is = tt
  each P e (suc k) is = (is, each P e k is)

  pub can_log : v.log.generation < greatest_generation v.fixed.shape → CanLog seen ors_listed
  can_log below =
      let lane = a.owns.chunk.lane_is in let two = a.owns.chunk.two_lanes in
      subst (λ y. CanLog y ors_listed) (sym opened_is) (record {
        is_open = refl;
        whole = (refl, refl);
        unentered = refl;
        below = below;
        lane = omega (arith, lane, two);
        lanes = v.fixed.shape.lanes_to;
        zones = v.fixed.shape.zones_to;
        unmaking = a.owns.chunk.unmaking;
        few = omega arith;
        each = each (CanEnter open_view) or_listed 32 can_enter;
      })

  -- ---- ITS LOG IS WRITTEN, AND IT TAKES ITS NUMBER
  module _ (w : View) (is : IsLogged seen ors_listed w) where
    same_so : w ≡ record open_view {
      claims = w.claims;
      changes = [];
      calls = w.calls;
      log = record (new_log Open v.log.generation) { entries = all_logged open_view ors_listed };
    }
    same_so = is.same ∙ ap (λ (y : View). record y {
      claims = w.claims;
      changes = [];
      calls = w.calls;
      log = record y.log { entries = all_logged y ors_listed };
    }) opened_is

    fixed_so : w.fixed ≡ v.fixed
    fixed_so = ap (λ (y : View). y.fixed) same_so

    pub generation_so : w.log.generation ≡ v.log.generation
    generation_so = ap (λ (y : View). y.log.generation) same_so

    -- the log has the ORs, and after them the entry that ends the generation
    logged_so : all_logged open_view ors_listed ≡ ors_logged open_view
    logged_so = ap (λ (p : Rattle.std.specs.Prelude.Option Place).
        replicate 32 (record { word = 3080; place = p; op = Or; value = 1 })
        ++ ends_with v.fixed.shape v.fixed.lane v.log.generation ∷ [])
        (place_is open_view open_chunk)

    entries_so : w.log.entries ≡ ors_logged w
    entries_so = ap (λ (y : View). y.log.entries) same_so
        ∙ (logged_so ∙ sym (ap (λ (y : View). ors_logged y) same_so))

    chunk_so : HasChunk w
    chunk_so = chunk_noted seen (subst HasChunk (sym opened_is) open_chunk) w
        (fixed_so ∙ sym seen_fixed) is.noted

    no_turn : (B : Block) → turn (latest (redos (ors_logged w))) B ≡ None
    no_turn (Small c i) = refl
    no_turn (Big f) = refl
    no_turn Root = refl

    pub may_draw : n < greatest_generation v.fixed.shape → MayDraw w
    may_draw few = record {
      is_open = ap (λ (y : View). y.log.phase) same_so;
      whole = (
        ap (λ (y : View). y.log.slot) same_so,
        ap (λ (y : View). y.log.pair) same_so,
      );
      first = ap (λ (y : View). y.number) same_so;
      drained = inl (ap (λ (y : View). y.changes) same_so);
      found = n;
      seen = subst (λ steps. Rattle.std.specs.Prelude.Contains steps (NumberSeen n))
          (sym (ap (λ (y : View). y.seen) same_so)) (0, omega arith, refl);
      below = few;
      new_blocks = λ B e. absurd (let z : Some true ≡ None = sym e
          ∙ (ap (λ es. turn (latest (redos es)) B) entries_so ∙ no_turn B) in cc);
      root = is.root;
      entries = inr is.whole;
    }

    pub numbered : (m : ℕ) → v.log.generation < greatest_generation v.fixed.shape
        → IsNumbered (after w (Draw m))
    numbered m below = record {
      can = numbered_lawful seen w ors_listed m (can_log below) is
          (ap (λ (y : View). value_in y (seal_word y)) opened_is ∙ a.log_.seal)
          (ap (λ (y : View). value_in y (generation_word y)) opened_is
          ∙ (a.log_.generation
          ∙ ap (λ (y : View). Some y.log.generation) (sym opened_is)));
      chunk = chunk_noted w chunk_so (after w (Draw m)) refl
          (record { notes = []; are = refl; each = tt });
      entries = entries_so;
    }

-- ---- ITS LOG IS PERFORMED
module _ (v : View) (is : IsNumbered v) where
  decided_chunk : HasChunk (decided v)
  decided_chunk = record {
    two_lanes = is.chunk.two_lanes;
    lane_is = is.chunk.lane_is;
    no_run = is.chunk.no_run;
    unmaking = λ c. refl;
    own = ap (λ es. mine_after (turn (latest (redos es)) (Big 0))
        (not (becomes v.fixed.shape [] v.claims 0) && mine v.fixed.shape v.claims (Big 0)))
        is.entries
        ∙ (ap (λ m. not (m && true) && mine v.fixed.shape v.claims (Big 0))
        (is.chunk.unmaking 0) ∙ is.chunk.own);
    from_itself = is.chunk.from_itself;
  }

  module _ (found : ℕ → ℕ) (w : View) (done : IsPerformed v found w) where
    fixed_after : w.fixed ≡ v.fixed
    fixed_after = ap (λ (y : View). y.fixed) done.same

    log_after : w.log ≡ next_log Idle v.log
    log_after = ap (λ (y : View). y.log) done.same

    -- the last entry makes the generation the next one
    ended : last_made found v.log.entries (generation_word v) ≡ Some (v.log.generation + 1)
    ended = ap (λ es. last_made found es (generation_word v)) is.entries
        ∙ (last_more found (replicate 32 or_logged)
        (ends_with v.fixed.shape v.fixed.lane v.log.generation) (generation_word v)
        ∙ ap (λ o. first_of_two o (last_made found (replicate 32 or_logged) (generation_word v)))
        (cond-true (generation_word v == generation_word v) (Some (v.log.generation + 1)) None
        (eq-eqb (generation_word v) (generation_word v) refl)))

    pub awaits_next : AwaitsCall w
    awaits_next = record {
      owns = record {
        chunk = chunk_noted (decided v) decided_chunk w fixed_after done.noted;
        idle = ap (λ (l : Log). l.phase) log_after;
        unentered = ap (λ (l : Log). l.entries) log_after;
      };
      drained = ap (λ (y : View). y.changes) done.same;
      log_ = record {
        seal = ap (λ (f : Constants). value_in w
            (Rattle.pm_layout.specs.Areas.word_of_seal f.shape f.lane)) fixed_after ∙ done.seal;
        generation = ap (λ (f : Constants). value_in w
            (Rattle.pm_layout.specs.Areas.word_of_generation f.shape f.lane)) fixed_after
            ∙ (done.made (generation_word v) (λ e. omega (arith, e))
            ∙ (ap (λ o. first_of_two o (value_in v (generation_word v))) ended
            ∙ ap (λ (l : Log). Some l.generation) (sym log_after)));
      };
    }
