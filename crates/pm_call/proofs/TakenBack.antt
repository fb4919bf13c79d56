-- A lane at work may take back what its transaction did: its recorded words are as they were, and nothing of it is left in its log.
use Rattle.std.proofs.Common.{◌≡◌, ◌≢◌, ℕ, ◌+◌, ◌*◌, ◌<◌, ◌≤◌, ◌⊎◌, inl, inr, ⊎_elim, Bool, true, false, cond, eqb, ◌==◌, List, [], ◌∷◌, ◌++◌, length, refl, sym, ap, ◌∙◌, subst, arith, None, Some}
use Rattle.std.specs.Int.{bit_at}
use Rattle.std.specs.Option.{option_map}
use Rattle.std.proofs.lemmas.Bool.{eqb-true, eqb-false}
use Rattle.pm_layout.specs.declared.shape.Shape.{Shape}
use Rattle.pm_layout.specs.Areas.{word_of_generation}
use Rattle.pm_view.specs.Changes.{Undrained}
use Rattle.pm_view.specs.Claims.{Claim, Drained, making, pictured}
use Rattle.pm_view.specs.Log.{Log, Open, Phase, Recorded, new_log, old_of}
use Rattle.pm_view.specs.Places.{Place, Block, Small, Big, Root, word_of}
use Rattle.pm_view.specs.View.{View, Constants}
use Rattle.pm_view.specs.Views.{after_all, decided_by, value_in}
use Rattle.pm_view.specs.Log.{log_drained}
use Rattle.pm_view.specs.Steps.{Step}
use Rattle.pm_world.specs.Logs.{AreRestored}
use Rattle.pm_world.specs.States.{given}
use Rattle.pm_world.specs.Sights.{is_pictured, is_recorded, picture}
use Rattle.pm_crash.specs.Looked.{word_place, words_in}
use Rattle.pm_plan.specs.Plans.{Ready, claims_persisted, in_turn, log_persisted, persists_all}
use Rattle.pm_plan.proofs.Going.{persists_all_lawful}
use Rattle.pm_plan.proofs.Plans.{after_all-append, ready_both}
use Rattle.pm_undo.specs.Plans.{restores, retires}
use Rattle.pm_plan.specs.Notes.{AreNotes, DrainedTo, Note, noted}
use Rattle.pm_undo.specs.Working.{CanEndAt, CanRetire, IsRestored, IsRetired, IsWorking}
use Rattle.pm_undo.proofs.Restored.{restore_lawful}
use Rattle.pm_undo.proofs.Retired.{retire_lawful}
use Rattle.pm_call.specs.At.{IsDataOf}
use Rattle.pm_call.specs.GivenUp.{generation_after}
use Rattle.pm_call.specs.Plans.{takes_back}
use Rattle.pm_call.proofs.Frames.{noting}

-- WHAT IT LEAVES: claims that tell nothing new of blocks, nothing undrained, and an empty log
pub record IsTakenBack (v w : View) : Type 0 where
  pub notes : List Note
  pub each : AreNotes v.fixed.shape v.claims notes
  pub calls : List Step
  pub generation : ℕ
  pub same : w ≡ noting v notes [] calls (new_log Open generation)
  pub next : generation ≡ generation_after v.log.records v.log.generation
  pub restored : AreRestored (picture v.fixed.shape (noted notes v.claims)) v.log.records
  pub others : (u : ℕ) → ((p : Place) → is_recorded v.log.records p ≡ true → u ≢ word_of v.fixed.shape p) → u ≢ word_of_generation v.fixed.shape v.fixed.lane
      → pictured v.fixed.shape (noted notes v.claims) u ≡ value_in v u
  pub known : pictured v.fixed.shape (noted notes v.claims) (word_of_generation v.fixed.shape v.fixed.lane) ≡ Some generation

-- ---- notes one after another
noted_both : (xs ys : List Note) (t : List Claim) → noted (xs ++ ys) t ≡ noted xs (noted ys t)
noted_both [] ys t = refl
noted_both (x ∷ xs) ys t = ap (λ s. Rattle.pm_plan.specs.Notes.claim_of x ∷ s) (noted_both xs ys t)

are_both : (sh : Shape) (xs ys : List Note) (t : List Claim) → AreNotes sh (noted ys t) xs → AreNotes sh t ys → AreNotes sh t (xs ++ ys)
are_both sh [] ys t xs_are ys_are = ys_are
are_both sh (x ∷ xs) ys t xs_are ys_are = (subst (λ s. Rattle.pm_plan.specs.Notes.IsNote sh s x) (sym (noted_both xs ys t)) xs_are.0, are_both sh xs ys t xs_are.1 ys_are)

-- ---- where all is made persistent
pub persisted_log : (changes : List Undrained) (log : Log) → log.phase ≡ Open → log_persisted changes log ≡ log
persisted_log [] log open_ = refl
persisted_log (c ∷ changes) log open_ = ap (λ ph. log_drained ph log) open_

pub persisted_claims : (changes : List Undrained) (log : Log) (claims : List Claim) → log.phase ≡ Open → (claims_persisted changes log claims ≡ claims) ⊎ (claims_persisted changes log claims ≡ Drained [] ∷ claims)
persisted_claims [] log claims open_ = inl refl
persisted_claims (c ∷ changes) log claims open_ = inr (ap (λ ph. decided_by ph log.entries (Drained [] ∷ claims)) open_)

no_records : (rs : List Recorded) → length rs ≡ 0 → rs ≡ []
no_records [] e = refl
no_records (r ∷ rs) e = absurd (omega (arith, e))

none_given : {P : Type 0} (p : Place) (x : ℕ) → old_of [] p ≡ Some x → P
none_given p x e = absurd cc

-- a recorded word is in no lane's area
far_word : (v : View) (B : Block) (k : ℕ) → v.fixed.lane < v.fixed.shape.lanes → v.fixed.shape.lanes ≤ 32 → k < words_in v B → word_of v.fixed.shape (word_place v B k) ≢ word_of_generation v.fixed.shape v.fixed.lane
far_word v (Small c i) k lane lanes within e = let m : ℕ = Rattle.pm_view.specs.Claims.class v.claims c * i in omega (arith, e, lane)
far_word v (Big f) k lane lanes within e = omega (arith, e, lane)
far_word v Root k lane lanes within e = absurd (omega (arith, within))

-- once its words are back, a lane may end its generation
pub may_retire : (v : View) → IsWorking v → CanRetire (after_all v (restores v))
may_retire v working = record {
  ends = ends u.log.phase r.working.is_open;
  whole = r.working.whole;
  unentered = r.working.unentered;
  below = r.working.below;
  lane = r.working.lane;
  unmaking = r.working.unmaking;
  drained = ap (λ (y : View). y.changes) r.same;
  known = r.working.known;
}
  where
    u : View
    u = after_all v (restores v)

    r : IsRestored v (after_all v (restores v))
    r = (restore_lawful v working).1

    ends : (ph : Phase) → ph ≡ Open → CanEndAt (after_all v (restores v)) ph
    ends ph e = subst (CanEndAt (after_all v (restores v))) (sym e) r.restored

pub undo_ready : (v : View) → IsWorking v → Ready v (in_turn restores retires v)
unfolding in_turn
undo_ready v working = ready_both v (restores v) (retires (after_all v (restores v))) (restore_lawful v working).0 (retire_lawful (after_all v (restores v)) (may_retire v working)).0

module _ (v : View) (working : IsWorking v) (unbumped : v.log.bumped ≡ false) (recorded : (p : Place) → is_recorded v.log.records p ≡ true → IsDataOf v p) where
  abbrev sh : Shape
  sh = v.fixed.shape

  abbrev own : ℕ
  own = word_of_generation sh v.fixed.lane

  log_is : (rs : List Recorded) → v.log.records ≡ rs → v.log ≡ record (new_log Open v.log.generation) { records = rs }
  log_is rs e = λ i. record {
    phase = working.is_open i;
    generation = v.log.generation;
    bumped = unbumped i;
    records = e i;
    entries = working.unentered i;
    slot = working.whole.0 i;
    pair = working.whole.1 i;
  }

  -- ---- nothing is recorded
  module _ (none : v.log.records ≡ []) where
    persisted : Ready v (persists_all v) × IsTakenBack v (after_all v (persists_all v))
    persisted = (
      (persists_all_lawful v).0,
      ⊎_elim
          (λ (e : claims_persisted v.changes v.log v.claims ≡ v.claims). back [] tt e (λ u. refl))
          (λ (e : claims_persisted v.changes v.log v.claims ≡ Drained [] ∷ v.claims). back (DrainedTo [] ∷ []) (working.unmaking, tt) e (λ u. refl))
          (persisted_claims v.changes v.log v.claims working.is_open),
    )
      where
        w : View
        w = after_all v (persists_all v)

        back : (ns : List Note) → AreNotes sh v.claims ns → claims_persisted v.changes v.log v.claims ≡ noted ns v.claims → ((u : ℕ) → pictured sh (noted ns v.claims) u ≡ value_in v u) → IsTakenBack v w
        back ns are claims stays = record {
          notes = ns;
          each = are;
          calls = w.calls;
          generation = v.log.generation;
          same = (persists_all_lawful v).1
              ∙ (ap (λ t. record v { claims = t; changes = []; calls = w.calls; log = log_persisted v.changes v.log }) claims
              ∙ ap (λ l. record v { claims = noted ns v.claims; changes = []; calls = w.calls; log = l }) (persisted_log v.changes v.log working.is_open ∙ log_is [] none));
          next = sym (ap (λ rs. generation_after rs v.log.generation) none);
          restored = λ p x b e. none_given p x (ap (λ rs. old_of rs p) (sym none) ∙ e);
          others = λ u other far. stays u;
          known = stays own ∙ working.known;
        }

  -- ---- some words are
  module _ (some : length v.log.records ≢ 0) where
    abbrev u : View
    u = after_all v (restores v)

    r : IsRestored v u
    r = (restore_lawful v working).1

    fixed_u : u.fixed ≡ v.fixed
    fixed_u = ap (λ (y : View). y.fixed) r.same

    log_u : u.log ≡ v.log
    log_u = ap (λ (y : View). y.log) r.same

    can : CanRetire u
    can = may_retire v working

    abbrev w : View
    w = after_all u (retires u)

    t : IsRetired u w
    t = (retire_lawful u can).1

    abbrev notes_ : List Note
    notes_ = t.noted.notes ++ r.noted.notes

    claims_w : w.claims ≡ noted notes_ v.claims
    claims_w = t.noted.are ∙ (ap (noted t.noted.notes) r.noted.are ∙ sym (noted_both t.noted.notes r.noted.notes v.claims))

    each_w : AreNotes sh v.claims notes_
    each_w = are_both sh t.noted.notes r.noted.notes v.claims (subst (λ s. AreNotes sh s t.noted.notes) r.noted.are (subst (λ (g : Constants). AreNotes g.shape u.claims t.noted.notes) fixed_u t.noted.each)) r.noted.each

    phase_w : Rattle.pm_undo.specs.Working.phase_ended u.log.phase ≡ Open
    phase_w = ap Rattle.pm_undo.specs.Working.phase_ended r.working.is_open

    -- what it knows then, from what it knew as the words were back
    value_w : (y : ℕ) → y ≢ own → pictured sh (noted notes_ v.claims) y ≡ pictured sh u.claims y
    value_w y far =
        ap (λ s. pictured sh s y) (sym claims_w)
        ∙ (ap (λ (g : Constants). pictured g.shape w.claims y) (sym fixed_u ∙ ap (λ (z : View). z.fixed) (sym t.same))
        ∙ (t.others y (λ e. far (e ∙ ap (λ (g : Constants). word_of_generation g.shape g.lane) fixed_u))
        ∙ ap (λ (g : Constants). pictured g.shape u.claims y) fixed_u))

    value_u : (y : ℕ) → pictured sh u.claims y ≡ value_in u y
    value_u y = ap (λ (g : Constants). pictured g.shape u.claims y) (sym fixed_u)

    far_of : (p : Place) → is_recorded v.log.records p ≡ true → word_of sh p ≢ own
    far_of p e = let d = recorded p e in subst (λ q. word_of sh q ≢ own) (sym d.at) (far_word v d.object.block d.index working.lane working.lanes d.within)

    restored_w : AreRestored (picture sh (noted notes_ v.claims)) v.log.records
    restored_w p x b e =
        ap (λ z. cond (is_pictured p) (option_map (λ n. bit_at n b == 1) z) None) (value_w (word_of sh p) (far_of p (ap given e)))
        ∙ subst (λ (g : Constants). picture g.shape u.claims p b ≡ Some (bit_at x b == 1)) fixed_u (r.restored p x b (ap (λ (l : Log). old_of l.records p) log_u ∙ e))

    generation_w : v.log.generation + 1 ≡ generation_after v.log.records v.log.generation
    generation_w = at v.log.records some where
      at : (rs : List Recorded) → length rs ≢ 0 → v.log.generation + 1 ≡ generation_after rs v.log.generation
      at [] n = absurd (n refl)
      at (c ∷ rs) n = refl

    undone : Ready v (in_turn restores retires v) × IsTakenBack v (after_all v (in_turn restores retires v))
    unfolding in_turn
    undone = (
      undo_ready v working,
      subst (IsTakenBack v) (sym (after_all-append v (restores v) (retires u))) (record {
        notes = notes_;
        each = each_w;
        calls = w.calls;
        generation = v.log.generation + 1;
        same = t.same
            ∙ (ap (λ (y : View). record y { claims = w.claims; changes = []; calls = w.calls; log = new_log (Rattle.pm_undo.specs.Working.phase_ended u.log.phase) (y.log.generation + 1) }) r.same
            ∙ (ap (λ ph. record v { claims = w.claims; changes = []; calls = w.calls; log = new_log ph (v.log.generation + 1) }) phase_w
            ∙ ap (λ c. record v { claims = c; changes = []; calls = w.calls; log = new_log Open (v.log.generation + 1) }) claims_w));
        next = generation_w;
        restored = restored_w;
        others = λ y other far. value_w y far ∙ (value_u y ∙ r.others y other);
        known = ap (λ s. pictured sh s own) (sym claims_w)
            ∙ (ap (λ (g : Constants). pictured g.shape w.claims (word_of_generation g.shape g.lane)) (sym fixed_u)
            ∙ (ap (λ (g : Constants). pictured g.shape w.claims (word_of_generation u.fixed.shape u.fixed.lane)) (ap (λ (z : View). z.fixed) (sym t.same))
            ∙ (t.next ∙ ap (λ (l : Log). Some (l.generation + 1)) log_u)));
      }),
    )

  -- TAKING BACK IS LAWFUL
  pub take_back_lawful : Ready v (takes_back v) × IsTakenBack v (after_all v (takes_back v))
  take_back_lawful = at (eqb (length v.log.records) 0) refl where
    at : (b : Bool) → eqb (length v.log.records) 0 ≡ b → Ready v (cond b (persists_all v) (in_turn restores retires v)) × IsTakenBack v (after_all v (cond b (persists_all v) (in_turn restores retires v)))
    at true e = persisted (no_records v.log.records (eqb-true (length v.log.records) 0 e))
    at false e = undone (eqb-false (length v.log.records) 0 e)
