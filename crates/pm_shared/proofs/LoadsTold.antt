-- A load as the table asks it: it tells too that the lane's view is one of a world, in which the word has the value found.
use Rattle.std.proofs.Common.{◌≡◌, ℕ, ◌<◌, slice_index, None, sym, ap, ◌∙◌, subst}
use mathlib.Core.Option.{some, none}
use Rattle.atomic_table.specs.Table.{State, Me, step}
use Rattle.pm_layout.specs.declared.shape.Shape.{Shape}
use Rattle.pm_layout.specs.Chunks.{words_of}
use Rattle.pm_view.specs.Steps.Step.{Load}
use Rattle.pm_view.specs.View.{View}
use Rattle.pm_world.specs.InWorld.{InWorld}
use Rattle.pm_world.specs.Memory.{PoolWord}
use Rattle.pm_shared.proofs.Allows.{Before}
use Rattle.pm_shared.proofs.Asked.{one_view, below_place, word_is}
use Rattle.pm_shared.proofs.Looks.{before}
use Rattle.pm_shared.proofs.Moving.{found_at}
use Rattle.pm_shared.specs.declared.mem.SharedMem.{SharedMem}
use Rattle.pm_shared.specs.Openings.{opening_of}
use Rattle.pm_shared.specs.Placing.{place, table_size, memory_of}
use Rattle.pm_shared.specs.TableRule.{TableAllows}
use Rattle.pm_shared.specs.Plays.{tells, loads}
use Rattle.pm_shared.specs.Rule.{Knowledge, SeatAsks}

module _ (m : SharedMem) (lane : ℕ) (me : Me ℕ Knowledge) (id i w : ℕ) (ask : SeatAsks m.shape lane me (λ r. Load w r)) (inside : w < words_of m.shape) (is : i ≡ place m.shape (PoolWord w)) where
  -- the world of the rule is one of the seat's view
  in_world : (s : State ℕ Knowledge) → Before (opening_of m.table.shared.key) s.words ask.view None → InWorld ask.view i (slice_index s.words i)
  in_world s B = let same : (opening_of m.table.shared.key).shape ≡ m.shape = m.shaped in
      subst (λ u. InWorld ask.view u (slice_index s.words i)) (sym (word_is m.shape w i is inside)) (record {
        opening = opening_of m.table.shared.key;
        memory = memory_of (opening_of m.table.shared.key).shape s.words;
        views = B.views;
        past = B.past;
        world = B.world;
        runs = B.inside;
        here = B.view;
        inside = subst (λ (z : Shape). w < words_of z) (sym ask.shape) inside;
        word = found_at (opening_of m.table.shared.key).shape s.words i (PoolWord w) (record {
          is = is ∙ ap (λ z. place z (PoolWord w)) (sym same);
          inside = subst (λ z. place z (PoolWord w) < table_size z) (sym same) (below_place m.shape (PoolWord w) inside);
          size = B.size;
        });
        sizes = B.sizes;
        causes = B.causes;
      })

  pub loads_asked : TableAllows m.table.shared.key id me i (λ n. n) (tells (λ v st r. Load st.word r) (step 0 i 0 0 none) me) → TableAllows m.table.shared.key id me i (λ n. n) (loads (step 0 i 0 0 none) me)
  loads_asked q s rule homes here fits = let t = q s rule homes here fits in
      let B = before m.table.shared.key s rule id ask.view None (here ∙ ap (λ (n : Me ℕ Knowledge). some n.0) ask.sees) in (
        t.0,
        t.1,
        t.2,
        t.3,
        λ v e. (t.4 v e, subst (λ (u : View). InWorld u i (slice_index s.words i)) (sym (one_view v ask.view None None me e ask.sees)) (in_world s B)),
      )
