-- What a call changes of the memory: one word of the table, so one location, or none.
use Rattle.std.proofs.Common.{◌≡◌, ◌≢◌, ℕ, ◌+◌, ◌<◌, ◌≤◌, ⊎_elim, List, length, set, refl, sym, ap, ◌∙◌, subst, arith, get_or-set_other, get_or-set_same}
use Rattle.std.proofs.lemmas.Bool.{cases_eq}
use Rattle.pm_layout.specs.declared.shape.Shape.{Shape}
use Rattle.pm_world.specs.Memory.{Location, PoolWord, LockWord, RunWord, ZoneWord, ZoneLock, CommitCounter, StopWord, IsSame, IsSameBut}
use Rattle.pm_shared.specs.Placing.{sort_of, count_of, start_of, table_size, place, pulse_place, said, memory_of}
use Rattle.pm_shared.proofs.Injective.{lies, apart, start_after}

module _ (sh : Shape) (words : List ℕ) (x : ℕ) where
  -- a location elsewhere
  away : (i : ℕ) (l : Location) → place sh l ≢ i → memory_of sh (set words i x) l ≡ memory_of sh words l
  away i l ne = ap (said l) (get_or-set_other words i (place sh l) x 0 (λ q. ne q))

  pub becomes : (at : Location) → place sh at < table_size sh → length words ≡ table_size sh → IsSameBut at (memory_of sh words) (memory_of sh (set words (place sh at) x)) × (memory_of sh (set words (place sh at) x) at ≡ said at x)
  becomes at inside size = (
    λ l ne. away (place sh at) l (λ q. ne (sym (apart sh at l inside (sym q)))),
    ap (said at) (get_or-set_same words (place sh at) x 0 (omega arith)),
  )

  -- the word was found and left, or became another that says the same
  pub stays : (at : Location) → place sh at < table_size sh → length words ≡ table_size sh → said at x ≡ memory_of sh words at → IsSame (memory_of sh words) (memory_of sh (set words (place sh at) x))
  stays at inside size same l = let b = becomes at inside size in ⊎_elim
      (λ (e : place sh l ≡ place sh at). let q = apart sh at l inside (sym e) in subst (λ z. memory_of sh (set words (place sh at) x) z ≡ memory_of sh words z) q (b.1 ∙ same))
      (λ (ne : place sh l ≢ place sh at). away (place sh at) l ne) (cases_eq (place sh l) (place sh at))

  -- the lanes' own words are no location's
  pub pulses : (lane : ℕ) → lane < sh.lanes → IsSame (memory_of sh words) (memory_of sh (set words (pulse_place sh lane) x))
  pulses lane few l = away (pulse_place sh lane) l (λ q. let size : table_size sh ≡ start_of sh 7 + sh.lanes = refl in let a = lies sh l (let e : place sh l ≡ start_of sh 7 + lane = q in omega arith) in let f = a.fewer in let p = a.at in
      let b : start_of sh (sort_of l + 1) ≤ start_of sh 7 = start_after sh (sort_of l + 1) 7 (sorts l) in let e : place sh l ≡ start_of sh 7 + lane = q in
      let n : start_of sh (sort_of l + 1) ≡ start_of sh (sort_of l) + count_of sh (sort_of l) = next l in absurd (omega arith))
    where
      sorts : (l : Location) → sort_of l + 1 ≤ 7
      sorts (PoolWord w) = omega arith
      sorts (LockWord line) = omega arith
      sorts (RunWord page) = omega arith
      sorts (ZoneWord zone) = omega arith
      sorts (ZoneLock zone) = omega arith
      sorts CommitCounter = omega arith
      sorts StopWord = omega arith

      next : (l : Location) → start_of sh (sort_of l + 1) ≡ start_of sh (sort_of l) + count_of sh (sort_of l)
      next (PoolWord w) = refl
      next (LockWord line) = refl
      next (RunWord page) = refl
      next (ZoneWord zone) = refl
      next (ZoneLock zone) = refl
      next CommitCounter = refl
      next StopWord = refl
