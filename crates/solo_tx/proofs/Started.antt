-- A lane at rest may begin a call.
use Rattle.std.proofs.Common.{◌≡◌, ℕ, ◌<◌, true, eqb, inl, inr, Contains, List, [], ◌∷◌, ◌++◌, map, length, None, Ok, refl, sym, ap, ◌∙◌, subst, arith}
use Rattle.std.specs.List.{list_any}
use Rattle.std.proofs.lemmas.Bool.{or_left}
use Rattle.std.proofs.lemmas.List.Elements.{Contains-append_right}
use Rattle.std.proofs.lemmas.Option.{none-some}
use Rattle.solo_memory.specs.Runs.{Made}
use Rattle.solo_undo.proofs.Areas.{area_tells_nothing, generation_in_area}
use Rattle.solo_undo.proofs.Retired.{may_look}
use Rattle.solo_undo.proofs.Staying.{looked}
use Rattle.solo_view.proofs.Sequences.{after_all-append}
use Rattle.solo_view.specs.Area.{area_word, is_in_area}
use Rattle.solo_view.specs.Founds.{FoundAlone}
use Rattle.solo_view.specs.Held.{is_known}
use Rattle.solo_view.specs.Log.{Log, no_log}
use Rattle.solo_view.specs.Log.Phase.{Open}
use Rattle.solo_view.specs.Steps.{Step}
use Rattle.solo_view.specs.Steps.Step.{Load, NumberSeen}
use Rattle.solo_view.specs.View.{View}
use Rattle.solo_view.specs.Views.{after, after_all, begun, with_seen}
use Rattle.solo_world.proofs.Sequencing.{lane_runs, ready_both, runs_look}
use Rattle.solo_world.specs.Lanes.{IsSeenAs, span_of}
use Rattle.solo_world.specs.Lawful.{generation_limit}
use Rattle.solo_world.specs.Records.{generation_of}
use Rattle.solo_world.specs.Sequences.{IsMade, Ready, Runs, by_lane, by_view, in_turn, looks, one}
use Rattle.solo_world.specs.declared.lane.Lane.{Lane}
use Rattle.solo_lock.proofs.Drawless.{drawless}
use Rattle.solo_lock.proofs.Undrained.{rest_kept}
use Rattle.solo_lock.specs.Begun.{IsBegun}
use Rattle.solo_lock.specs.Leading.{DrawEnded}
use Rattle.solo_lock.specs.Resting.{IsAtRest, IsFresh}
use Rattle.solo_lock.proofs.Taken.{no_lines}
use Rattle.solo_tx.specs.Beginning.{IsBegunBy, RestsBehind}
use Rattle.solo_tx.specs.Sequences.{sees_generation, starts}

-- the view of a call that has just begun
abbrev pub fresh_call : View → List Step → View
fresh_call u seen = record u { log = no_log (Open [] []); seen = seen; call = []; number = None }

started : (u : View) (n : ℕ) → IsFresh u → (seen : List Step) × ((after u (NumberSeen n) ≡ fresh_call u seen) × Contains seen (NumberSeen n))
started u n (inl idle) = (
  NumberSeen n ∷ [],
  (ap (λ (log : Log). with_seen (NumberSeen n) (begun log.phase u)) idle, (0, omega arith, refl)),
)
started u n (inr (log, number, call)) = (
  u.seen ++ NumberSeen n ∷ [],
  (
    ap (λ (log : Log). with_seen (NumberSeen n) (begun log.phase u)) log
        ∙ (ap (λ (log : Log). record u { log = log; seen = u.seen ++ NumberSeen n ∷ [] }) log
        ∙ (ap (λ call. record u { log = no_log (Open [] []); seen = u.seen ++ NumberSeen n ∷ []; call = call }) call
        ∙ ap (λ number. record u { log = no_log (Open [] []); seen = u.seen ++ NumberSeen n ∷ []; call = []; number = number }) number)),
    Contains-append_right u.seen (NumberSeen n ∷ []) (NumberSeen n) (0, omega arith, refl),
  ),
)

fresh_records : (v : View) → IsFresh v → v.log.records ≡ []
fresh_records v (inl idle) = ap (λ (log : Log). log.records) idle
fresh_records v (inr (log, number, call)) = ap (λ (log : Log). log.records) log

module _ {M : Type 0} (at : M → View → Type 0) (lane : Lane M) (v : View) (is : IsAtRest at lane v) where
  abbrev pub word : ℕ
  word = area_word v.lane

  abbrev pub u : View
  u = looked v word

  known : is_known v word ≡ true
  known = or_left (is_in_area v.lane word) (list_any (λ other. eqb other word) v.known) (generation_in_area v.lane)

  looks_at : Ready v (sees_generation v) × (after_all v (sees_generation v) ≡ u)
  unfolding sees_generation by_lane by_view
  looks_at = may_look v word (λ (w : View). w ≡ u) (let inside = is.place.inside in omega (arith, inside)) known (λ l there. area_tells_nothing v.lanes v.lane word l.line v.words is.place.lane (generation_in_area v.lane)) refl

  -- the memory is seen as the view behind that
  pub saw : (mid : View → Type 0) → IsMade (at lane.memory) mid sees_generation → mid u
  unfolding Runs
  saw mid made = subst mid looks_at.1 (made v is.seen.memory looks_at.0)

  rests_so : (memory : M) → at memory u → IsAtRest at (record lane { memory = memory }) u
  rests_so memory there = record {
    seen = record { memory = there; locks = is.seen.locks; records = is.seen.records; drawn = is.seen.drawn; last = is.seen.last; pool = is.seen.pool; shape = (let s = is.seen.shape in record { lanes = s.lanes; zones = s.zones; size = s.size }) };
    answered = is.answered;
    unharmed = is.unharmed;
    unstopped = is.unstopped;
    unlisted = is.unlisted;
    fresh = is.fresh;
    undrained = rest_kept v u refl refl refl refl (λ alone. refl) is.undrained;
    free = is.free;
    place = (let p = is.place in record { lane = p.lane; few = p.few; inside = p.inside });
  }

  pub spent_at_once : (memory : M) → IsMade (at lane.memory) (at memory) sees_generation → RestsBehind at (record lane { memory = memory }) v sees_generation
  spent_at_once memory made = record {
    ready = looks_at.0;
    draws = drawless v (sees_generation v) (let e = ap (λ (w : View). length w.entries) looks_at.1 in omega (arith, e));
    rests = subst (IsAtRest at (record lane { memory = memory })) (sym looks_at.1) (rests_so memory (saw (at memory) made));
  }

  module _ (n : ℕ) (mid : View → Type 0) (memory : M) (made : IsMade (at lane.memory) mid sees_generation) (seen : Made mid (at memory) (NumberSeen n)) where
    abbrev t : (steps : List Step) × ((after u (NumberSeen n) ≡ fresh_call u steps) × Contains steps (NumberSeen n))
    t = started u n is.fresh

    abbrev w : View
    w = fresh_call u t.0

    ends : after_all v (starts n v) ≡ w
    unfolding starts in_turn one after_all
    ends = after_all-append v (sees_generation v) (NumberSeen n ∷ []) ∙ (ap (λ (m : View). after m (NumberSeen n)) looks_at.1 ∙ t.1.0)

    ready : Ready v (starts n v)
    unfolding starts in_turn one Ready
    ready = ready_both v (sees_generation v) (NumberSeen n ∷ []) looks_at.0 (tt, subst (λ (m : View). FoundAlone m (NumberSeen n)) (sym looks_at.1) (seen u (saw mid made)).2, tt)

    there : at memory w
    there = subst (at memory) t.1.0 (seen u (saw mid made)).0

    no_draws : DrawEnded v (starts n v)
    no_draws = drawless v (starts n v) (let e = ap (λ (m : View). length m.entries) ends in omega (arith, e))

    abbrev new : Lane M
    new = record lane { memory = memory }

    seen_so : IsSeenAs at new w
    seen_so = record {
      memory = there;
      locks = is.seen.locks;
      records = is.seen.records ∙ ap (map span_of) (fresh_records v is.fresh);
      drawn = λ number some. absurd (none-some number (sym is.answered ∙ some));
      last = is.seen.last;
      pool = is.seen.pool;
      shape = (let s = is.seen.shape in record { lanes = s.lanes; zones = s.zones; size = s.size });
    }

    pub started_spent : RestsBehind at new v (starts n)
    started_spent = record {
      ready = ready;
      draws = no_draws;
      rests = subst (IsAtRest at new) (sym ends) (record {
        seen = seen_so;
        answered = is.answered;
        unharmed = is.unharmed;
        unstopped = is.unstopped;
        unlisted = is.unlisted;
        fresh = inr (refl, refl, refl);
        undrained = rest_kept v w refl refl refl refl (λ alone. refl) is.undrained;
        free = is.free;
        place = (let p = is.place in record { lane = p.lane; few = p.few; inside = p.inside });
      });
    }

    pub has_begun : generation_of v < generation_limit → n < generation_limit → IsBegunBy at new v (starts n)
    has_begun generation below = record {
      ready = ready;
      draws = no_draws;
      entries = ap (λ (m : View). m.entries) ends;
      begun = subst (IsBegun at new) (sym ends) (record {
        seen = seen_so;
        unharmed = is.unharmed;
        unstopped = is.unstopped;
        unlisted = is.unlisted;
        log = refl;
        undrawn = refl;
        undrained = rest_kept v w refl refl refl refl (λ alone. refl) is.undrained;
        untold = refl;
        area = record { lane = is.place.lane; few = is.place.few; inside = is.place.inside; below = generation };
        may_come = record { found = n; seen = t.1.1; below = below };
        lines = no_lines w is.free;
      });
    }

pub generation_looked_at : (old new : View → Type 0) (lane found : ℕ) → ((v : View) → old v → lane ≡ v.lane) → Made old new (Load (area_word lane) found) → IsMade old new sees_generation
unfolding sees_generation
generation_looked_at old new lane found is_lane made = lane_runs old lane is_lane (λ lane. looks (area_word lane)) new (Ok tt) (runs_look old new (area_word lane) found made)
