-- A search by a lane that is alone leaves all words, and so a lane at work is at work behind it.
use Rattle.std.proofs.Common.{◌≡◌, ⊎_elim, ℕ, Bool, true, false, cond, eqb, eq-eqb, eqb-true, ◌&&◌, IsTrue, All, IfSome, Contains, List, [], ◌∷◌, map, set, Option, Some, is_some, refl, sym, ap, ◌∙◌, subst, arith}
use Rattle.std.specs.List.{list_any}
use Rattle.std.proofs.lemmas.Bool.{false≢true, or_cases, or_left, or_right}
use Rattle.std.proofs.lemmas.List.{set-get_or}
use Rattle.std.proofs.lemmas.List.Folds.{list_any_at}
use Rattle.std.proofs.lemmas.List.Elements.{All-head, All-map, All-tail, All-weaker, Contains-append_right}
use Rattle.solo_view.specs.Area.{is_in_area}
use Rattle.solo_view.specs.Blocks.{allocation_word, block_at, is_word}
use Rattle.solo_view.specs.Founds.{FoundAlone, IsAlone}
use Rattle.solo_view.specs.Held.{is_known, is_under_found}
use Rattle.solo_view.specs.Rights.{is_written}
use Rattle.solo_view.specs.Steps.{Step}
use Rattle.solo_view.specs.Steps.Step.{Load, Store, Or, And, Flush, Drain, TakeWrite, TakeRead, Raise, Give, ZoneTry, ZoneGive, Occupied, Occupy, Vacate, Draw, NumberSeen, StopSeen, SetStop, Tell}
use Rattle.solo_view.specs.View.{Lock, View}
use Rattle.solo_view.specs.Views.{after, with_block}
use Rattle.solo_world.proofs.Chunks.{found_block, written_found}
use Rattle.solo_world.proofs.Searched.{kept_one, still_alone}
use Rattle.solo_world.specs.Searches.{IsKeptBySearch, Searches, is_search}
use Rattle.solo_undo.specs.Working.{IsWorking}
use Rattle.solo_blocks.specs.NewRuns.{IsThere}

-- no word changed, the blocks that were found under locks are there, and what the lane may write it may write still
pub record IsLeft (v w : View) : Type 0 where
  pub words : w.words ≡ v.words
  pub locked : All (IsThere w) w.locks
  pub written : (u : ℕ) → is_written v u ≡ true → is_written w u ≡ true

-- ---- locks, as a word is looked at that has the value that the view has

abbrev writes : ℕ → ℕ → Bool → Option ℕ → Bool
writes u line write block = write && is_some block && is_under_found line block u

module _ (lanes : ℕ) (words : List ℕ) (w : ℕ) where
  abbrev Is : Lock → Type 0
  Is l = IfSome l.block (λ lines. block_at lanes words l.line ≡ Some lines)

  there_still : (l : Lock) → Is l → Is (with_block lanes words w l)
  there_still l is = at (is_word (allocation_word lanes words l.line) w) where
    at : (b : Bool) → Is (cond b (record l { block = block_at lanes words l.line }) l)
    at true = found_block lanes words l.line (block_at lanes words l.line) refl
    at false = is

  writes_still : (u : ℕ) (l : Lock) → Is l → writes u l.line l.write l.block ≡ true → (let m : Lock = with_block lanes words w l in writes u m.line m.write m.block) ≡ true
  writes_still u l is may = at (is_word (allocation_word lanes words l.line) w) where
    at : (b : Bool) → (let m : Lock = cond b (record l { block = block_at lanes words l.line }) l in writes u m.line m.write m.block) ≡ true
    at true = written_found lanes words l.line l.write l.block u is may
    at false = may

  any_still : (u : ℕ) (locks : List Lock) → All Is locks → list_any (λ (l : Lock). writes u l.line l.write l.block) locks ≡ true
      → list_any (λ (l : Lock). writes u l.line l.write l.block) (map (with_block lanes words w) locks) ≡ true
  any_still u [] all may = absurd (false≢true may)
  any_still u (l ∷ locks) all may =
      let m : Lock = with_block lanes words w l in
      let rest : Bool = list_any (λ (q : Lock). writes u q.line q.write q.block) (map (with_block lanes words w) locks) in
      ⊎_elim
      (λ (here : writes u l.line l.write l.block ≡ true). or_left (writes u m.line m.write m.block) rest (writes_still u l (All-head Is l locks all) here))
      (λ (later : list_any (λ (q : Lock). writes u q.line q.write q.block) locks ≡ true). or_right (writes u m.line m.write m.block) rest (any_still u locks (All-tail Is l locks all) later))
      (or_cases (writes u l.line l.write l.block) (list_any (λ (q : Lock). writes u q.line q.write q.block) locks) may)

-- ---- a step, and a search

pub left_one : (v : View) (s : Step) → IsTrue (is_search s) → FoundAlone v s → IsAlone v → All (IsThere v) v.locks → IsLeft v (after v s)
left_one v (Load w x) is found alone there =
    let words : List ℕ = set v.words w x in
    let same : words ≡ v.words = ap (set v.words w) (found alone) ∙ set-get_or v.words w 0 in
    let now : All (Is v.lanes words w) v.locks = subst (λ ws. All (Is v.lanes ws w) v.locks) (sym same) there in
    record {
      words = same;
      locked = All-map (Is v.lanes words w) (with_block v.lanes words w) v.locks (All-weaker (Is v.lanes words w) (λ l. Is v.lanes words w (with_block v.lanes words w l)) (there_still v.lanes words w) v.locks now);
      written = λ u may. any_still v.lanes words w u v.locks now may;
    }
left_one v (Occupied at found) is found_so alone there = record { words = refl; locked = there; written = λ u may. may }
left_one v (Occupy at bits won) is found_so alone there = record { words = refl; locked = there; written = λ u may. may }
left_one v (ZoneTry zone won) is found_so alone there = record { words = refl; locked = there; written = λ u may. may }
left_one v (ZoneGive zone) is found_so alone there = record { words = refl; locked = there; written = λ u may. may }
left_one v (Store w x) is found alone there = absurd (false≢true is)
left_one v (Or w bits found) is found_so alone there = absurd (false≢true is)
left_one v (And w bits found) is found_so alone there = absurd (false≢true is)
left_one v (Flush line) is found alone there = absurd (false≢true is)
left_one v Drain is found alone there = absurd (false≢true is)
left_one v (TakeWrite line won) is found alone there = absurd (false≢true is)
left_one v (TakeRead line won) is found alone there = absurd (false≢true is)
left_one v (Raise line won) is found alone there = absurd (false≢true is)
left_one v (Give line) is found alone there = absurd (false≢true is)
left_one v (Vacate at bits) is found alone there = absurd (false≢true is)
left_one v (Draw n) is found alone there = absurd (false≢true is)
left_one v (NumberSeen n) is found alone there = absurd (false≢true is)
left_one v (StopSeen set) is found alone there = absurd (false≢true is)
left_one v SetStop is found alone there = absurd (false≢true is)
left_one v (Tell operation reply) is found alone there = absurd (false≢true is)

pub left_by_search : (v w : View) (steps : List Step) → Searches v steps w → IsAlone v → All (IsThere v) v.locks → IsLeft v w
unfolding Searches
left_by_search v w [] searches alone there = subst (IsLeft v) (sym searches) (record { words = refl; locked = there; written = λ u may. may })
left_by_search v w (s ∷ steps) searches alone there =
    let one : IsLeft v (after v s) = left_one v s searches.0 searches.3 alone there in
    let rest : IsLeft (after v s) w = left_by_search (after v s) w steps searches.4 (still_alone v (after v s) (kept_one v s searches.0 searches.2) alone) one.locked in
    record { words = rest.words ∙ one.words; locked = rest.locked; written = λ u may. rest.written u (one.written u may) }

-- ---- a lane at work

known_member : (known : List ℕ) (u : ℕ) → list_any (λ other. eqb other u) known ≡ true → Contains known u
known_member [] u e = absurd (false≢true e)
known_member (k ∷ known) u e = ⊎_elim
    (λ (here : eqb k u ≡ true). (0, omega arith, eqb-true k u here))
    (λ (later : list_any (λ other. eqb other u) known ≡ true). Contains-append_right (k ∷ []) known u (known_member known u later))
    (or_cases (eqb k u) (list_any (λ other. eqb other u) known) e)

known_any : (known : List ℕ) (u : ℕ) → Contains known u → list_any (λ other. eqb other u) known ≡ true
known_any known u there = list_any_at (λ other. eqb other u) known there.0 u there.1 (eq-eqb _ u there.2)

module _ (v w : View) (kept : IsKeptBySearch v w) (left : IsLeft v w) where
  abbrev searched : View
  searched = record v { known = w.known; run_words = w.run_words; zone_words = w.zone_words; locks = w.locks; zone_locks = w.zone_locks; reserved = w.reserved; seen = w.seen }

  pub is_searched : w ≡ searched
  is_searched = kept.same ∙ ap (λ ws. record searched { words = ws }) left.words

  known_still : (u : ℕ) → is_known v u ≡ true → is_known searched u ≡ true
  known_still u e =
      let area : Bool = is_in_area v.lane u in
      let before : Bool = list_any (λ other. eqb other u) v.known in
      let now : Bool = list_any (λ other. eqb other u) w.known in
      ⊎_elim (λ (own : area ≡ true). or_left area now own)
      (λ (learned : before ≡ true). or_right area now (known_any w.known u (kept.known u (known_member v.known u learned))))
      (or_cases area before e)

  pub works_still : IsWorking v → IsWorking w
  works_still works = subst IsWorking (sym is_searched) (record {
    is_open = works.is_open;
    undrawn = works.undrawn;
    area = record { lane = works.area.lane; few = works.area.few; inside = works.area.inside; below = works.area.below };
    records = record {
      most = works.records.most;
      stored = works.records.stored;
      some = works.records.some;
      few = works.records.few;
      each = λ slot r u at covered.
          let user = works.records.each slot r u at covered in
          record { own = left.written u user.own; known = known_still u user.known; outside = user.outside; inside = user.inside };
      once = works.records.once;
    };
    drained = works.drained;
  })
