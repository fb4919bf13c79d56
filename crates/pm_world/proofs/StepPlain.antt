-- Steps that change no word and no claim: the stop word is seen, or is set, and an operation is told.
use Rattle.std.specs.Prelude.{◌∷◌}
use Rattle.std.proofs.Common.{◌≡◌, ◌≢◌, ℕ, ◌+◌, ◌<◌, inl, inr, ⊎_elim, Bool, refl, sym, ap, subst, Option}
use Rattle.pm_objects.specs.declared.calls.Operation.{Operation}
use Rattle.pm_objects.specs.declared.history.Value.{Value}
use Rattle.pm_view.specs.Steps.Step.{StopSeen, Tell}
use Rattle.pm_view.specs.View.{View}
use Rattle.pm_view.specs.Views.{after}
use Rattle.pm_world.specs.Sights.{sight_of}
use Rattle.pm_world.specs.Lanes.{Flies, SightFits}
use Rattle.pm_world.specs.Memory.{Memory, CommitCounter, StopWord, IsSame, cells_of}
use Rattle.pm_world.specs.World.{Opening, Views, Past, origin, ghost_of, settled_words, LaneFits, may_draw, World}
use Rattle.pm_world.specs.Laws.{Turn, Keeps}
use Rattle.pm_world.proofs.Counting.{count_same}
use Rattle.pm_world.proofs.Going.{unchanged}
use Rattle.pm_world.proofs.Worlds.{turned, world_after}
use Rattle.pm_view.specs.Counts.{IsAtStop}

-- A STEP WITH NO CHANGE of words, claims, changes or log: the world's clauses go over as they are
module _ (o : Opening) (mem new : Memory) (views views' : Views) (g : Past) (x : World o mem views g) (k : ℕ) (ink : k < o.lanes) (same : IsSame mem new) (v : View) (t : Turn views views' k v) where
  pub plain_step : sight_of v ≡ sight_of (views k) → may_draw v ≡ may_draw (views k) → (IsAtStop (views k) → IsAtStop v) → LaneFits o mem g k v → World o new views' g
  plain_step sight draws stops f = subst (λ m. World o m views' g) (λ i l. sym (same l) i) (world_after o mem views g x k ink mem views' g (settled_words o g) v refl
      record { writer = λ l j ne. refl; reader = λ l j ne. refl; pool = λ p b u w. refl; set = λ p b u. refl; descr = λ c u. refl; up = λ c n e. e; runs = λ c u. refl; holder = λ B j ne e. e; holder_back = λ B j ne e. e; class = λ c u. refl; first = λ c j ne. inl refl; flies = λ j n d ne w y. y }
      record { generation = λ j ne. refl; seal = λ j ne. refl; entry = λ j i h ne. refl; slot = λ j m i ne. refl; zone = λ z j ne. refl; entries = λ j ne. refl }
      t (unchanged o.shape o.lanes (origin o) (cells_of o.shape mem) (λ j. sight_of (views j)) (ghost_of g) x.bits k ink (sight_of v) (λ j. sight_of (views' j)) (ap (λ y. y.hold) sight) (λ n y. subst (λ z. Rattle.pm_world.specs.Lanes.flies_at z.phase n) (sym sight) y)
      (subst (λ y. SightFits o.shape (cells_of o.shape mem) (settled_words o g) (Flies (ghost_of g) k) (ghost_of g) k y) (sym sight) (x.bits.each_lane k)) (turned views views' k v t))
      f x.of_lanes x.small x.header (subst (λ n. mem CommitCounter + n < Rattle.pm_layout.specs.Areas.greatest_generation o.shape + 32) (sym (count_same views views' k v t draws o.lanes)) x.counter_room)
      (⊎_elim (λ (e : mem StopWord ≡ 0). inl e) (λ (e : (j : ℕ) × (j < o.lanes) × IsAtStop (views j)). inr (e.0, e.1, still e.0 e.2)) x.stop_word))
    where
      still : (j : ℕ) → IsAtStop (views j) → IsAtStop (views' j)
      still j e = ⊎_elim (λ (q : j ≡ k). subst (λ i. IsAtStop (views' i)) (sym q) (subst IsAtStop (sym t.here) (stops (subst (λ i. IsAtStop (views i)) q e)))) (λ (ne : j ≢ k). subst IsAtStop (sym (t.else_ j ne)) e) (Rattle.std.proofs.lemmas.Bool.cases_eq j k)

-- the same facts of a lane, whose call and told steps alone changed
pub lane_told : (o : Opening) (mem : Memory) (g : Past) (k : ℕ) (v : View) (seen : Rattle.std.specs.Prelude.List Rattle.pm_view.specs.Steps.Step) (call actions published : Rattle.std.specs.Prelude.List Rattle.pm_view.specs.View.Told) → LaneFits o mem g k v → LaneFits o mem g k (record v { seen = seen; call = call; actions = actions; published = published })
lane_told o mem g k v seen call actions published f = record { lane = f.lane; shape = f.shape; lanes = f.lanes; log = f.log; made = f.made; recorded = f.recorded; number = f.number; zones = f.zones; masks = f.masks; room = f.room; within = f.within; alone = λ one. let a = f.alone one in record { words = a.words; occupancy = a.occupancy }; entries = f.entries }

pub stop_seen : (set : Bool) → Keeps (StopSeen set)
stop_seen set o mem new views views' g k x ink law moves t = (plain_step o mem new views views' g x k ink moves.0 (after (views k) (StopSeen set)) t refl refl (λ e. e) (lane_told o mem g k (views k) (StopSeen set ∷ (views k).seen) (views k).call (views k).actions (views k).published (x.each_lane k ink)), tt)

pub told : (operation : Operation) (reply : Option Value) → Keeps (Tell operation reply)
told operation reply o mem new views views' g k x ink law moves t = let v = after (views k) (Tell operation reply) in (plain_step o mem new views views' g x k ink moves v t refl refl (λ e. e) (lane_told o mem g k (views k) (views k).seen v.call v.actions v.published (x.each_lane k ink)), tt)
