-- A CALL AFTER ANOTHER: each kept call that has its fact goes on with the replay.
use Rattle.std.proofs.Common.{◌≡◌, ⊎_elim, ℕ, zero, suc, ◌<◌, ◌≤◌, ◌==◌, ◌&&◌, ◌||◌, Bool, true, false, cond, List, [], ◌∷◌, ◌++◌, refl, sym, ap, ◌∙◌, subst, arith, eq-eqb, ne_eqb}
use Rattle.std.specs.List.{AllZip}
use Rattle.std.proofs.lemmas.Bool.{and_from, and_right, both_ways, cases_Bool, cond-false, cond-true, eqb-true, or_left}
use Rattle.pm_header.specs.declared.header.Header.{Header}
use Rattle.pm_layout.specs.declared.shape.Shape.{Shape}
use Rattle.pm_objects.specs.declared.pool.PoolView.{PoolView}
use Rattle.pm_model.specs.CallStep.{CallRun, CallStep, State}
use Rattle.pm_model.specs.History.{opened}
use Rattle.pm_model.specs.Names.{Replays}
use Rattle.pm_view.specs.View.{View, Numbered, entry_drawn}
use Rattle.pm_world.specs.States.{after_diff, diff, over}
use Rattle.pm_world.specs.Sights.{call_in}
use Rattle.pm_world.specs.World.{Opening, Views, Past, numbered_by}
use Rattle.pm_crash.specs.Calls.{IsRunOf, StepsFrom, pending_after, pending_of, pending_then, state_of}
use Rattle.pm_crash.specs.Footprints.{Footprints, KeepsDecided, kept_bits}
use Rattle.pm_crash.specs.Images.{OpensPool}
use Rattle.pm_crash.specs.Laws.{CallIsStep, EverySetMayBeKept, HistoryHolds}
use Rattle.pm_crash.specs.Replayed.{HasFacts, HoldsReplay, kept_calls, kept_pending}
use Rattle.pm_crash.specs.Spelled.{Holds}
use Rattle.pm_crash.proofs.OpeningBits.{origin_holds}

-- two lists that agree, with one more each
zip_push : {A B : Type 0} (R : A → B → Type 0) (xs : List A) (ys : List B) (x : A) (y : B)
    → AllZip R xs ys → R x y → AllZip R (xs ++ x ∷ []) (ys ++ y ∷ [])
zip_push R [] [] x y h r = (r, tt)
zip_push R [] (b ∷ ys) x y h r = absurd h
zip_push R (a ∷ xs) [] x y h r = absurd h
zip_push R (a ∷ xs) (b ∷ ys) x y h r = (h.0, zip_push R xs ys x y h.1 r)

-- one more call at the end
replays_push : (s : State) (runs : List CallRun) (run : CallRun) (t u : State)
    → Replays s runs t → CallStep t run u → Replays s (runs ++ run ∷ []) u
replays_push s [] run t u h step = (u, subst (λ z. CallStep z run u) h step, refl)
replays_push s (a ∷ runs) run t u h step =
    (h.0, h.1, replays_push h.0 runs run t u h.2 step)

-- what is pending for a lane whose calls are all kept is what its entries leave
pub own_pending : (keep : ℕ → Bool) (drew : ℕ → View) (k n : ℕ)
    → ((m : ℕ) → m < n → (drew m).fixed.lane ≡ k → keep m ≡ true)
    → kept_pending keep drew n k ≡ pending_of (numbered_by k drew n)
unfolding pending_of
own_pending keep drew k zero h = refl
own_pending keep drew k (suc n) h =
    let v = drew n in let p = kept_pending keep drew n k in
    let rest : List Numbered = numbered_by k drew n in
    let e : Numbered = entry_drawn n v in
    let before = own_pending keep drew k n (λ m l. h m (omega arith)) in
    let ours : (v.fixed.lane == k) ≡ true
    → kept_pending keep drew (suc n) k ≡ pending_of (numbered_by k drew (suc n)) = λ t.
    let q = eqb-true v.fixed.lane k t in
    let here = and_from (keep n) (k == v.fixed.lane) (h n (omega arith) q)
    (eq-eqb k v.fixed.lane (sym q)) in
    cond-true (keep n && (k == v.fixed.lane)) (pending_after v.call p) p here
    ∙ (ap (pending_after v.call) before ∙ sym (ap pending_of (cond-true (v.fixed.lane == k) (e ∷ rest) rest t))) in
    let others : (v.fixed.lane == k) ≡ false
    → kept_pending keep drew (suc n) k ≡ pending_of (numbered_by k drew (suc n)) = λ t.
    let ne = ne_eqb k v.fixed.lane
    (λ q. both_ways (v.fixed.lane == k) t (eq-eqb v.fixed.lane k (sym q))) in
    cond-false (keep n && (k == v.fixed.lane)) (pending_after v.call p) p (and_right (keep n) (k == v.fixed.lane) ne)
    ∙ (before ∙ sym (ap pending_of (cond-false (v.fixed.lane == k) (e ∷ rest) rest t))) in
    ⊎_elim ours others (cases_Bool (v.fixed.lane == k))

-- THE LAW OF ONE CALL
pub call_is_step : CallIsStep
call_is_step o views g header fp keep d n l fact pool h =
    let v = g.drew n in
    let own : kept_pending keep g.drew n v.fixed.lane ≡ pending_of v.entries =
    own_pending keep g.drew v.fixed.lane n
    (λ m low same. d m (omega arith) (fp.earlier m n low l same))
    ∙ sym (ap pending_of (fp.entries n l)) in
    fact g.geo.class (kept_bits o g keep n) header pool (kept_pending keep g.drew n)
    (fp.precede keep d n l)
    (subst (λ (sh : Shape). Holds sh g.geo.class (kept_bits o g keep n) header pool)
    (sym (fp.shapes n l)) h)
    (sym (fp.drawn_ids n l)) own

-- ---- ONE NUMBER MORE

module _ (o : Opening) (g : Past) (keep : ℕ → Bool) (n : ℕ) where
  kept_one : keep n ≡ true
      → kept_bits o g keep (suc n) ≡ after_diff (diff (call_in (g.drew n))) (kept_bits o g keep n)
  kept_one e = λ i p b. let r = kept_bits o g keep n p b in
      cond (e i) (over (diff (call_in (g.drew n)) p b) r) r

  lost_one : keep n ≡ false → kept_bits o g keep (suc n) ≡ kept_bits o g keep n
  lost_one e = λ i p b. let r = kept_bits o g keep n p b in
      cond (e i) (over (diff (call_in (g.drew n)) p b) r) r

  calls_kept : keep n ≡ true
      → kept_calls keep g.drew (suc n) ≡ kept_calls keep g.drew n ++ g.drew n ∷ []
  calls_kept e = λ i. cond (e i) (kept_calls keep g.drew n ++ g.drew n ∷ []) (kept_calls keep g.drew n)

  calls_lost : keep n ≡ false → kept_calls keep g.drew (suc n) ≡ kept_calls keep g.drew n
  calls_lost e = λ i. cond (e i) (kept_calls keep g.drew n ++ g.drew n ∷ []) (kept_calls keep g.drew n)

  pending_lost : keep n ≡ false → kept_pending keep g.drew (suc n) ≡ kept_pending keep g.drew n
  pending_lost e = λ i k. let p = kept_pending keep g.drew n k in
      cond (e i && (k == (g.drew n).fixed.lane)) (pending_after (g.drew n).call p) p

  pending_kept : keep n ≡ true
      → kept_pending keep g.drew (suc n) ≡ pending_then (g.drew n) (kept_pending keep g.drew n)
  pending_kept e = λ i k. at k i
    where
      at : (k : ℕ) → kept_pending keep g.drew (suc n) k
          ≡ pending_then (g.drew n) (kept_pending keep g.drew n) k
      at k = let v = g.drew n in let p = kept_pending keep g.drew n in
          (λ i. cond (e i && (k == v.fixed.lane)) (pending_after v.call (p k)) (p k))
          ∙ ⊎_elim
          (λ (t : (k == v.fixed.lane) ≡ true).
          cond-true (k == v.fixed.lane) (pending_after v.call (p k)) (p k) t
          ∙ (ap (λ j. pending_after v.call (p j)) (eqb-true k v.fixed.lane t)
          ∙ sym (cond-true (k == v.fixed.lane) (pending_after v.call (p v.fixed.lane)) (p k) t)))
          (λ (t : (k == v.fixed.lane) ≡ false).
          cond-false (k == v.fixed.lane) (pending_after v.call (p k)) (p k) t
          ∙ sym (cond-false (k == v.fixed.lane) (pending_after v.call (p v.fixed.lane)) (p k) t))
          (cases_Bool (k == v.fixed.lane))

module _ (o : Opening) (g : Past) (keep : ℕ → Bool) (n : ℕ) (header : Header) (pool : PoolView)
    (before : HoldsReplay o g keep n header pool) where
  -- a call that is left out changes nothing
  pub goes_past : keep n ≡ false → HoldsReplay o g keep (suc n) header pool
  goes_past e = let r = before.replay in record {
    last = before.last;
    holds = subst (λ s. Holds o.shape g.geo.class s header before.last) (sym (lost_one o g keep n e)) before.holds;
    replay = record {
      runs = r.runs;
      are = subst (λ vs. AllZip IsRunOf vs r.runs) (sym (calls_lost o g keep n e)) r.are;
      replays = subst (λ p. Replays (opened pool) r.runs (state_of before.last p)) (sym (pending_lost o g keep n e)) r.replays;
    };
  }

  -- one that is kept is a step
  pub goes_on : keep n ≡ true → (g.drew n).fixed.shape ≡ o.shape
      → StepsFrom (g.drew n) g.geo.class (kept_bits o g keep n) header before.last
      (kept_pending keep g.drew n)
      → HoldsReplay o g keep (suc n) header pool
  goes_on e sh step = let r = before.replay in let v = g.drew n in record {
    last = step.next;
    holds = subst (λ s. Holds o.shape g.geo.class s header step.next) (sym (kept_one o g keep n e))
        (subst (λ (z : Shape). Holds z g.geo.class (after_diff (diff (call_in v)) (kept_bits o g keep n)) header step.next) sh step.holds);
    replay = record {
      runs = r.runs ++ step.run ∷ [];
      are = subst (λ vs. AllZip IsRunOf vs (r.runs ++ step.run ∷ [])) (sym (calls_kept o g keep n e))
          (zip_push IsRunOf (kept_calls keep g.drew n) r.runs v step.run r.are step.is_run);
      replays = subst (λ p. Replays (opened pool) (r.runs ++ step.run ∷ []) (state_of step.next p)) (sym (pending_kept o g keep n e))
          (replays_push (opened pool) r.runs step.run (state_of before.last (kept_pending keep g.drew n))
          (state_of step.next (pending_then v (kept_pending keep g.drew n))) r.replays step.steps);
    };
  }

-- ---- THE HISTORY

module _ (o : Opening) (views : Views) (g : Past) (header : Header) (pool : PoolView)
    (fp : Footprints o header.id views g) (facts : HasFacts g) (opens : OpensPool o header pool)
    (keep : ℕ → Bool) (d : KeepsDecided g keep) where
  pub history_holds : (n : ℕ) → n ≤ g.length → HoldsReplay o g keep n header pool
  history_holds zero l = record {
    last = pool;
    holds = origin_holds o g.geo.class opens.holds.no_fault fp.small fp.opening header pool opens.holds;
    replay = record { runs = []; are = tt; replays = refl };
  }
  history_holds (suc n) l =
      let before = history_holds n (omega arith) in
      ⊎_elim
      (λ (e : keep n ≡ true). goes_on o g keep n header pool before e (fp.shapes n l)
      (call_is_step o views g header fp keep d n l (facts n l) before.last before.holds))
      (λ (e : keep n ≡ false). goes_past o g keep n header pool before e)
      (cases_Bool (keep n))

pub holds : HistoryHolds
holds o views g header pool fp facts opens keep d n l = history_holds o views g header pool fp facts opens keep d n l

pub every_set : EverySetMayBeKept
every_set o views g header pool fp facts opens chosen =
    history_holds o views g header pool fp facts opens (λ n. g.decided n || chosen n)
    (λ n l e. or_left (g.decided n) (chosen n) e) g.length (omega arith)
