-- A chunk that a lane is to make a run has a descriptor that tells of nothing.
use Rattle.std.proofs.Common.{◌≡◌, ◌≢◌, ℕ, suc, ◌/◌, ◌%◌, ◌<◌, ⊎_elim, true, false, cond, not, ◌==◌, ◌&&◌, ap, refl, sym, subst, ◌∙◌, arith, lt-ltb}
use Rattle.std.proofs.lemmas.Bool.{both_ways, cases_eq, cases_Bool, eqb-true, cond-true, false_from_ne_true}
use Rattle.std.proofs.lemmas.Nat.Bits.{bit_at-zero}
use Rattle.pm_layout.specs.Chunks.{chunks_of, word_of_descriptor}
use Rattle.pm_view.specs.Claims.{class, is_run}
use Rattle.pm_view.specs.Log.{Open}
use Rattle.pm_view.specs.Places.{Descr, Small, Big, is_place}
use Rattle.pm_world.proofs.Entering.{logged_recorded}
use Rattle.pm_world.proofs.Frame.{mine_own, own_has, making_own}
use Rattle.pm_world.proofs.Going.{at_phase}
use Rattle.pm_world.proofs.StoreEntry.{same_bits}
use Rattle.pm_world.specs.Lanes.{Flies, own, owns, SightFits, HoldFits}
use Rattle.pm_world.specs.Lawful.{is_mine}
use Rattle.pm_world.specs.Memory.{Memory, PoolWord, bit, run_told, huge_told, cells_of}
use Rattle.pm_world.specs.Sights.{sight_of}
use Rattle.pm_world.specs.States.{there}
use Rattle.pm_world.specs.World.{Opening, Views, Past, World, origin, ghost_of, settled_words}
use Rattle.pm_shared.specs.Rule.{Sound}

module _ (o : Opening) (mem : Memory) (views : Views) (g : Past) (x : World o mem views g) (sound : Sound o mem views) (k : ℕ) (ink : k < o.lanes) (d : ℕ) (inside : d < chunks_of o.shape)
    (open_ : (views k).log.phase ≡ Open) (mine : is_mine (views k) (Big d) ≡ true) (unknown : class (views k).claims d ≡ 0) where
  abbrev word : ℕ
  word = mem (PoolWord (word_of_descriptor o.shape d))

  holds : (j : ℕ) → HoldFits o.shape (cells_of o.shape mem).writer (cells_of o.shape mem).reader (cells_of o.shape mem).descr (settled_words o g) (ghost_of g) j (sight_of (views j)).hold
  holds j = (x.bits.each_lane j).hold

  first_is : g.geo.first d ≡ d
  first_is = eqb-true (g.geo.first d) d ((holds k).mine (Big d) mine).1

  none_there : there (settled_words o g) (Big d) ≡ false
  none_there = ((holds k).mine (Big d) mine).2

  no_run : g.runs d ≡ false
  no_run = (holds k).free d (subst (λ f. (sight_of (views k)).hold.mine (Big f) ≡ true) (sym first_is) mine)

  fit_open : SightFits o.shape (cells_of o.shape mem) (settled_words o g) (Flies (ghost_of g) k) (ghost_of g) k (record (sight_of (views k)) { phase = Open })
  fit_open = at_phase o.shape o.lanes (origin o) (cells_of o.shape mem) (λ j. sight_of (views j)) (ghost_of g) x.bits k ink Open open_

  -- no lane makes it a run yet
  own_plain : (sight_of (views k)).hold.making d ≡ false
  own_plain = false_from_ne_true ((sight_of (views k)).hold.making d) (λ m. let h = (sight_of (views k)).hold in let q = (holds k).making d m in let e = (holds k).class d 0 (own_has h (Small d 0) (making_own h d 0 m)) in let one = q.2 in absurd (omega (arith, e, one, unknown)))

  not_made : (j : ℕ) → (sight_of (views j)).hold.making d ≡ false
  not_made j = false_from_ne_true ((sight_of (views j)).hold.making d) (λ made. ⊎_elim
      (λ (e : j ≡ k). both_ways ((sight_of (views k)).hold.making d) own_plain (subst (λ i. (sight_of (views i)).hold.making d ≡ true) e made))
      (λ (ne : j ≢ k). let mine_too = ((holds j).making d made).0 in let a : g.holder (Big d) ≡ suc j = ((holds j).mine (Big d) mine_too).0 in let b : g.holder (Big d) ≡ suc k = ((holds k).mine (Big d) mine).0 in ne (omega arith))
      (cases_eq j k))

  there_is : is_place o.shape (Descr d) ≡ true
  there_is = lt-ltb d (chunks_of o.shape) inside

  -- so its descriptor tells of no run
  no_lines : run_told (mem (PoolWord (word_of_descriptor o.shape d))) ≡ 0
  no_lines = sym (cond-true (is_place o.shape (Descr d)) (run_told (mem (PoolWord (word_of_descriptor o.shape d)))) 0 there_is) ∙ (x.bits.descr d not_made ∙ ap (λ r. cond r (g.geo.class d) 0) no_run)

  no_record : (sight_of (views k)).logged (Descr d) ≡ false
  no_record = false_from_ne_true ((sight_of (views k)).logged (Descr d)) (λ t. both_ways false refl
      ((x.each_lane k ink).recorded (ap Rattle.pm_world.specs.Lanes.is_decided open_) (Descr d) (logged_recorded (views k).fixed.shape (views k).fixed.lane (views k).changes 0 (views k).log.records (Descr d) t)).0)

  -- and of no huge block
  no_bit : (b : ℕ) → huge_told (mem (PoolWord (word_of_descriptor o.shape d))) b ≡ false
  no_bit b = let owned : owns g.geo (settled_words o g) (sight_of (views k)).hold (Descr d) b ≡ true = subst (λ f. own (sight_of (views k)).hold (Big f) ≡ true) (sym first_is) (mine_own (sight_of (views k)).hold (Big d) mine) in
      sym (ap (λ t. t && huge_told (mem (PoolWord (word_of_descriptor o.shape d))) b) there_is) ∙ ((fit_open.bits (Descr d) b owned).0 refl refl (ap (λ t. t && true) no_record) ∙ x.bits.geo.zeros d none_there b)

  pub tells_nothing : mem (PoolWord (word_of_descriptor o.shape d)) ≡ 0
  tells_nothing = ⊎_elim
      (λ (run : is_run word ≡ true). let lines : word / 256 ≡ 0 = sym (cond-true (is_run word) (word / 256) 0 run) ∙ no_lines in let one : word % 256 ≡ 1 = eqb-true (word % 256) 1 run in absurd (sound.descriptors d inside (omega arith)))
      (λ (no : is_run word ≡ false). same_bits word 0 (λ b. sym (ap (λ t. not t && bit word b) no) ∙ (no_bit b ∙ sym (ap (λ z. z == 1) (bit_at-zero b)))))
      (cases_Bool (is_run word))
