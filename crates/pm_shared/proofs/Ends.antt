-- HOW THE TABLE ENDS: of the last state that meets the rule the pool's seat knows each lane that came back.
use Rattle.std.proofs.Common.{◌≡◌, ℕ, zero, suc, ◌+◌, ◌<◌, List, [], ◌∷◌, length, slice_index, sym, ap, ◌∙◌, arith}
use mathlib.Core.Option.{some, some-injective, some-ne-none}
use lib.ListN.{get_elem?}
use Rattle.atomic_table.specs.Table.{State, Me, Final, Seen}
use Rattle.pm_layout.specs.Chunks.{words_of}
use Rattle.pm_view.specs.View.{View}
use Rattle.pm_world.specs.Memory.{PoolWord}
use Rattle.pm_shared.proofs.Asked.{place_is}
use Rattle.pm_shared.specs.Closings.{Closes}
use Rattle.pm_shared.specs.declared.rule.Beginning.{Beginning}
use Rattle.pm_shared.specs.Openings.{pool_with}
use Rattle.pm_shared.specs.Placing.{place, memory_of}
use Rattle.pm_shared.specs.Rule.{Knowledge, Pool}
use Rattle.pm_shared.specs.TableRule.{Ruled}
use Rattle.pm_shared.specs.TableRun.{moment}

word_there : (words : List ℕ) (i x : ℕ) → get_elem? words i ≡ some x → slice_index words i ≡ x
word_there [] i x e = absurd (some-ne-none x (sym e))
word_there (y ∷ ys) zero x e = some-injective y x e
word_there (y ∷ ys) (suc i) x e = word_there ys i x e

pub closes : (b : Beginning) (id : ℕ) (me : Me ℕ Knowledge) (all words : List ℕ) (slots : List ℕ) → Final (Seen (Ruled b) id me.0) all slots → length words ≡ words_of b.shape → ((w : ℕ) → w < length words → get_elem? all w ≡ some (slice_index words w))
    → (back : List View) → me ≡ pool_with back → Closes b back words
closes b id me all words slots final size each back is =
    let s : State ℕ Knowledge = final.0 in let r : Ruled b s = final.1.0 in let here : get_elem? s.views id ≡ some me.0 = final.1.1 in
    let crew = r.seats id (Pool back) (here ∙ ap (λ (m : Me ℕ Knowledge). some m.0) is) in record {
      last = moment (memory_of b.shape s.words) r.views r.past;
      world = r.world;
      run = r.run;
      size = size;
      words_are = λ w l. let at : place b.shape (PoolWord w) ≡ 0 + w = place_is b.shape (PoolWord w) l in let same : place b.shape (PoolWord w) ≡ w = omega arith in
          sym (word_there s.words w (slice_index words w) (ap (λ ws. get_elem? ws w) final.2 ∙ each w (omega (arith, size, l)))) ∙ ap (slice_index s.words) (sym same);
      lanes = λ n v at. let own = crew.each n v at in (own.inside, own.view);
    }
