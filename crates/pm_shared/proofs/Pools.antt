-- The pool's seat as lanes are handed out in their order, and as they come back.
use Rattle.std.proofs.Common.{◌≡◌, ℕ, ◌+◌, ◌-◌, ◌<◌, List, [], ◌∷◌, ◌++◌, None, sym, ap, ◌∙◌, subst, arith}
use Rattle.atomic_table.specs.Table.{Me, Splits, Joins}
use Rattle.pm_view.specs.View.{View}
use Rattle.pm_world.specs.Memory.{PoolWord}
use Rattle.pm_shared.proofs.Asked.{below_place}
use Rattle.pm_shared.proofs.Beginnings.{next_pool}
use Rattle.pm_shared.proofs.Crews.{splits, joins}
use Rattle.pm_shared.specs.declared.mem.SharedMem.{SharedMem}
use Rattle.pm_shared.specs.declared.rule.Beginning.{Beginning}
use Rattle.pm_shared.specs.Openings.{idle_view, idle_from, pool_with, pool_of, rest_of, handed_out, taken_back, no_one}
use Rattle.pm_shared.specs.Rule.{Knowledge, Pool, lane_of}
use Rattle.pm_shared.specs.TableRule.{Ruled}

pub some_words : (m : SharedMem) → 0 < m.table.shared.table_id.words
some_words m = subst (λ n. 0 < n) (sym m.sized) (let l = below_place m.shape (PoolWord 0) (omega arith) in omega (arith, l))

module _ (b : Beginning) (n : ℕ) (few : n < b.lanes) (back : List View) (me : Me ℕ Knowledge) (at : me ≡ pool_of b n back) where
  pub hands : (id : ℕ) → Splits (Ruled b) id me.0 (rest_of me.0) (handed_out me.0)
  hands id = subst (λ (m : Me ℕ Knowledge). Splits (Ruled b) id m.0 (rest_of m.0) (handed_out m.0)) (sym (at ∙ next_pool b n back few))
      (splits b id (idle_view b n) (idle_from b (n + 1) (b.lanes - (n + 1)) ++ back))

  pub rest_is : (rest_of me.0, me.1) ≡ pool_of b (n + 1) back
  rest_is = ap (λ (m : Me ℕ Knowledge). (rest_of m.0, m.1)) (at ∙ next_pool b n back few)

  pub lane_is : (handed_out me.0, []) ≡ lane_of (idle_view b n)
  lane_is = ap (λ (m : Me ℕ Knowledge). (handed_out m.0, [])) (at ∙ next_pool b n back few)

module _ (back : List View) (v : View) (me him : Me ℕ Knowledge) (pool : me ≡ pool_with back) (lane : him ≡ lane_of v) where
  pub takes : (b : Beginning) (id other : ℕ) → Joins (Ruled b) id me.0 other him.0 (taken_back me.0 him.0) no_one
  takes b id other = subst (λ (m : Me ℕ Knowledge). Joins (Ruled b) id m.0 other him.0 (taken_back m.0 him.0) no_one) (sym pool)
      (subst (λ (m : Me ℕ Knowledge). Joins (Ruled b) id (Pool back) other m.0 (taken_back (Pool back) m.0) no_one) (sym lane) (joins b id back other v None))

  pub took : (taken_back me.0 him.0, me.1) ≡ pool_with (back ++ v ∷ [])
  took = λ d. (taken_back (pool d).0 (lane d).0, (pool d).1)
