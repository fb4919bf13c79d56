-- A store as the table asks it: it tells too what the lane's view has of the word.
use Rattle.std.proofs.Common.{◌≡◌, ℕ, ◌<◌, slice_index, None, sym, ap, ◌∙◌, subst}
use mathlib.Core.Option.{some, none}
use Rattle.atomic_table.specs.Table.{State, Me, step}
use Rattle.pm_layout.specs.Chunks.{words_of}
use Rattle.pm_view.specs.Steps.Step.{Store}
use Rattle.pm_view.specs.View.{View}
use Rattle.pm_world.specs.Lawful.{IsLawful}
use Rattle.pm_world.specs.Memory.{PoolWord}
use Rattle.pm_world.specs.World.{Opening}
use Rattle.pm_shared.proofs.Allows.{Before}
use Rattle.pm_shared.proofs.Asked.{one_view, below_place, word_is}
use Rattle.pm_shared.proofs.Looks.{before}
use Rattle.pm_shared.proofs.Moving.{At, found_at}
use Rattle.pm_shared.proofs.StoresFind.{finds_was}
use Rattle.pm_shared.specs.declared.mem.SharedMem.{SharedMem}
use Rattle.pm_shared.specs.Openings.{opening_of}
use Rattle.pm_shared.specs.Placing.{place, table_size, memory_of}
use Rattle.pm_shared.specs.TableRule.{TableAllows}
use Rattle.pm_shared.specs.Plays.{tells, stores, FindsWas}
use Rattle.pm_shared.specs.Rule.{Knowledge, SeatAsks}

module _ (m : SharedMem) (lane : ℕ) (me : Me ℕ Knowledge) (id i w value : ℕ) (ask : SeatAsks m.shape lane me (λ _. Store w value)) (inside : w < words_of m.shape) (is : i ≡ place m.shape (PoolWord w)) where
  abbrev o : Opening
  o = opening_of m.table.shared.key

  -- what a seat's lane finds
  found_there : (s : State ℕ Knowledge) → Before (opening_of m.table.shared.key) s.words ask.view None → FindsWas ask.view i (slice_index s.words i)
  found_there s B = let same : (opening_of m.table.shared.key).shape ≡ m.shape = m.shaped in
      let A : At (opening_of m.table.shared.key).shape s.words i (PoolWord w) = record {
        is = is ∙ ap (λ z. place z (PoolWord w)) (sym same);
        inside = subst (λ z. place z (PoolWord w) < table_size z) (sym same) (below_place m.shape (PoolWord w) inside);
        size = B.size;
      } in
      let f : memory_of (opening_of m.table.shared.key).shape s.words (PoolWord w) ≡ slice_index s.words i = found_at (opening_of m.table.shared.key).shape s.words i (PoolWord w) A in
      let law : IsLawful (B.views ask.view.fixed.lane) (Store w value) = subst (λ v. IsLawful v (Store w value)) (sym B.view) (ask.lawful 0) in
      subst (λ u. FindsWas ask.view u (slice_index s.words i)) (sym (word_is m.shape w i is inside))
      (subst (λ x. FindsWas ask.view w x) f
      (subst (λ v. FindsWas v w (memory_of (opening_of m.table.shared.key).shape s.words (PoolWord w))) B.view
      (finds_was (opening_of m.table.shared.key) (memory_of (opening_of m.table.shared.key).shape s.words) B.views B.past B.world B.sound ask.view.fixed.lane B.inside w value law)))

  pub stores_asked : TableAllows m.table.shared.key id me i (λ _. value) (tells (λ v st r. Store st.word st.first) (step 0 i value 0 none) me) → TableAllows m.table.shared.key id me i (λ _. value) (stores (step 0 i value 0 none) me)
  stores_asked q s rule homes here fits = let t = q s rule homes here fits in
      let B = before m.table.shared.key s rule id ask.view None (here ∙ ap (λ (n : Me ℕ Knowledge). some n.0) ask.sees) in (
        t.0,
        t.1,
        t.2,
        t.3,
        λ v e. (t.4 v e, subst (λ (u : View). FindsWas u i (slice_index s.words i)) (sym (one_view v ask.view None None me e ask.sees)) (found_there s B)),
      )
