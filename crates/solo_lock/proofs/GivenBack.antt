-- Locks may be given back while a call is open that found no block under any.
use Rattle.std.proofs.Common.{◌≡◌, ℕ, inr, zero, suc, ◌+◌, ◌/◌, ◌<◌, All, Contains, None, Option, Some, false, not, eqb, List, [], ◌∷◌, map, drop, get_or, length, refl, sym, ap, ◌∙◌, subst, arith, eq-eqb, ne_eqb}
use Rattle.std.proofs.Math.ListN.{get_or-map}
use Rattle.std.proofs.lemmas.Bool.{cond-false, cond-true, eqb-false, or_left}
use Rattle.std.proofs.lemmas.List.Elements.{All-contains, All-contains_itself, All-get_or, All-weaker, Contains-append_right}
use Rattle.std.proofs.lemmas.List.{drop_all, drop_more, length-map}
use Rattle.std.proofs.lemmas.Option.{none-some}
use Rattle.std.specs.List.{AllByRecursion, IsDistinct, filter}
use Rattle.std.specs.Option.{ForSome}
use Rattle.std.specs.Prelude.{nat_eq}
use Rattle.solo_memory.specs.Runs.{Made}
use Rattle.solo_view.proofs.SameLane.{same_lane-after_all}
use Rattle.solo_view.specs.Counts.{counted as counted_calls}
use Rattle.solo_view.specs.Log.Phase.{Open}
use Rattle.solo_view.specs.Log.{Log, no_log}
use Rattle.solo_view.specs.Steps.Step.{Give}
use Rattle.solo_view.specs.Steps.{Step}
use Rattle.solo_view.specs.View.{View, Lock}
use Rattle.solo_view.specs.Views.{after, after_all}
use Rattle.solo_world.proofs.Going.{goes_counted, goes_one}
use Rattle.solo_world.proofs.Shapes.{IsOfSamePool, shape_seen}
use Rattle.solo_world.specs.Lanes.{last_number_of, lock_of, span_of}
use Rattle.solo_world.specs.Lawful.{GiveFits, MayGive, is_holder}
use Rattle.solo_world.specs.Sequences.{IsMade, IsReady, Ready, Runs, counted, in_turn, nothing, one}
use Rattle.solo_world.specs.declared.lane.HeldLock.{HeldLock}
use Rattle.solo_world.specs.declared.lane.Lane.{Lane}
use Rattle.solo_lock.specs.Leading.{IsLed, LeaveBlocks}
use Rattle.solo_lock.proofs.Drawless.{drawless}
use Rattle.solo_lock.proofs.Leads.{counted_then, leave_then, led_same, led_then, ready_led}
use Rattle.solo_lock.proofs.Undrained.{rest_kept}
use Rattle.solo_lock.specs.Begun.{HoldsLines, IsBegun}
use Rattle.solo_lock.specs.Locking.{HasNotTaken, HoldsUnfound, IsBusy, IsGivenBack, gives, line_at, no_lock, takes}
use Rattle.solo_lock.specs.Resting.{HasPlace, MayRest}

abbrev lines_of : List HeldLock → List ℕ
lines_of locks = map (λ (l : Lock). l.line) (map lock_of locks)

-- what is left of distinct lines is
distinct_drop : (k : ℕ) (locks : List HeldLock) → IsDistinct nat_eq (lines_of locks) → IsDistinct nat_eq (lines_of (drop k locks))
unfolding IsDistinct
distinct_drop zero locks once = once
distinct_drop (suc k) [] once = tt
distinct_drop (suc k) (h ∷ locks) once = distinct_drop k locks once.1

-- no lock of other lines goes
others_stay : (line : ℕ) (locks : List HeldLock) → AllByRecursion (λ other. nat_eq line other ≡ false) (lines_of locks) → filter (λ (l : Lock). not (eqb l.line line)) (map lock_of locks) ≡ map lock_of locks
others_stay line [] apart = refl
others_stay line (h ∷ locks) apart =
    cond-true (not (eqb h.line line)) (lock_of h ∷ filter (λ (l : Lock). not (eqb l.line line)) (map lock_of locks)) (filter (λ (l : Lock). not (eqb l.line line)) (map lock_of locks))
    (ap not (ne_eqb h.line line (λ same. eqb-false line h.line apart.0 (sym same))))
    ∙ ap (λ (rest : List Lock). lock_of h ∷ rest) (others_stay line locks apart.1)

-- the lock of the line goes
first_goes : (h : HeldLock) (locks : List HeldLock) → IsDistinct nat_eq (lines_of (h ∷ locks)) → filter (λ (l : Lock). not (eqb l.line h.line)) (map lock_of (h ∷ locks)) ≡ map lock_of locks
unfolding IsDistinct
first_goes h locks once =
    cond-false (not (eqb h.line h.line)) (lock_of h ∷ filter (λ (l : Lock). not (eqb l.line h.line)) (map lock_of locks)) (filter (λ (l : Lock). not (eqb l.line h.line)) (map lock_of locks))
    (ap not (eq-eqb h.line h.line refl))
    ∙ others_stay h.line locks once.0

-- what is left of locks is among them
left_is_held : (k : ℕ) (locks : List HeldLock) (l : Lock) → Contains (map lock_of (drop k locks)) l → Contains (map lock_of locks) l
left_is_held zero locks l there = there
left_is_held (suc k) [] l there = there
left_is_held (suc k) (h ∷ locks) l there = Contains-append_right (lock_of h ∷ []) (map lock_of locks) l (left_is_held k locks l there)

-- each of the locks may be given, whatever of them are left and whatever is known
abbrev pub MayGiveAny : View → Type 0
MayGiveAny v = (locks : List Lock) (known : List ℕ) (l : Lock) → Contains v.locks l → GiveFits (record v { locks = locks; known = known }) l v.log.phase

module _ (v : View) (locks : List HeldLock) (seen : map lock_of locks ≡ v.locks) (any : MayGiveAny v) (lines : HoldsLines v) where
  -- the first so many are given back
  abbrev AreGiven : ℕ → View → Type 0
  AreGiven k w = w ≡ record v { locks = map lock_of (drop k locks); known = w.known }

  once : IsDistinct nat_eq (lines_of locks)
  once = subst (λ (held : List Lock). IsDistinct nat_eq (map (λ (l : Lock). l.line) held)) (sym seen) lines.once

  module _ (k : ℕ) (low : k < length locks) (w : View) (is : AreGiven k w) where
    abbrev h : HeldLock
    h = get_or locks k no_lock

    left : drop k locks ≡ h ∷ drop (k + 1) locks
    left = drop_more locks k no_lock low

    held : w.locks ≡ lock_of h ∷ map lock_of (drop (k + 1) locks)
    held = ap (λ (u : View). u.locks) is ∙ ap (map lock_of) left

    inside : h.line < length w.words / 8
    inside =
        let all : All (λ (l : Lock). l.line < length v.words / 8) (map lock_of locks) = subst (All (λ (l : Lock). l.line < length v.words / 8)) (sym seen) lines.inside in
        subst (λ (u : View). h.line < length u.words / 8) (sym is) (within locks k low all) where
          within : (held : List HeldLock) (i : ℕ) → i < length held → All (λ (l : Lock). l.line < length v.words / 8) (map lock_of held) → (get_or held i no_lock).line < length v.words / 8
          within held i low all = subst (λ (l : Lock). l.line < length v.words / 8) (get_or-map lock_of held i no_lock) (All-get_or (λ (l : Lock). l.line < length v.words / 8) (map lock_of held) i (lock_of no_lock) (let n = length-map held lock_of in omega (arith, n, low)) all)

    may_give : MayGive w h.line
    may_give = record {
      inside = inside;
      held = ap (λ (locks : List Lock). is_holder locks h.line) held ∙ or_left (eqb h.line h.line) (is_holder (map lock_of (drop (k + 1) locks)) h.line) (eq-eqb h.line h.line refl);
      fits = All-weaker (Contains w.locks) (λ (l : Lock). l.line ≡ h.line → GiveFits w l w.log.phase)
          (λ l there same. subst (λ (u : View). GiveFits u l u.log.phase) (sym is)
          (any (map lock_of (drop k locks)) w.known l (subst (λ (held : List Lock). Contains held l) seen (left_is_held k locks l (subst (λ (u : View). Contains u.locks l) is there)))))
          w.locks (All-contains_itself w.locks);
    }

    given : AreGiven (k + 1) (after w (Give h.line))
    given =
        ap (λ (u : View). record u { locks = filter (λ (l : Lock). not (eqb l.line h.line)) u.locks; known = (after w (Give h.line)).known }) is
        ∙ ap (λ locks. record v { locks = locks; known = (after w (Give h.line)).known })
        (ap (λ (locks : List HeldLock). filter (λ (l : Lock). not (eqb l.line h.line)) (map lock_of locks)) left
        ∙ first_goes h (drop (k + 1) locks) (subst (λ (locks : List HeldLock). IsDistinct nat_eq (lines_of locks)) left (distinct_drop k locks once)))

  may : (k : ℕ) → k < length locks → (w : View) → AreGiven k w → MayGive w (line_at locks k)
  may k low w is = may_give k low w is

  then : (k : ℕ) → k < length locks → (w : View) → AreGiven k w → AreGiven (k + 1) (after w (Give (line_at locks k)))
  then k low w is = given k low w is

  all_given : Ready v (gives locks v) × AreGiven (length locks) (after_all v (gives locks v))
  unfolding gives
  all_given =
      goes_counted AreGiven (λ i. one (Give (line_at locks i))) (length locks)
      (λ k low. goes_one (AreGiven k) (AreGiven (k + 1)) (Give (line_at locks k)) (λ w is. (may k low w is, tt, then k low w is))) v
      (ap (λ locks. record v { locks = locks }) (sym seen))

  none_left : (w : View) → AreGiven (length locks) w → w ≡ record v { locks = []; known = w.known }
  none_left w is = is ∙ ap (λ (rest : List HeldLock). record v { locks = map lock_of rest; known = w.known }) (drop_all (length locks) locks (omega arith))

  pub lawful_gives : Ready v (gives locks v) × (after_all v (gives locks v) ≡ record v { locks = []; known = (after_all v (gives locks v)).known })
  lawful_gives = let t = all_given in (t.0, none_left (after_all v (gives locks v)) t.1)

-- while a call is open, and no block was found under any lock
open_may_give : (v : View) → v.log ≡ no_log (Open [] []) → All (λ (l : Lock). l.block ≡ None) v.locks → MayGiveAny v
open_may_give v is_open unfound locks known l there =
    subst (λ (log : Log). GiveFits (record v { locks = locks; known = known }) l log.phase) (sym is_open) (All-contains (λ (l : Lock). l.block ≡ None) v.locks l unfound there)

counted_gives : (locks : List HeldLock) (v : View) (n : ℕ) → counted_calls (counted (λ i. one (Give (line_at locks i))) n v) ≡ 0
unfolding counted nothing in_turn one counted_calls
counted_gives locks v zero = refl
counted_gives locks v (suc n) =
    let steps : List Step = counted (λ i. one (Give (line_at locks i))) n v in
    let rest = counted_gives locks v n in
    let both = counted_then steps (Give (line_at locks n) ∷ []) in
    omega (arith, rest, both)

pub none_counted : (locks : List HeldLock) (v : View) → counted_calls (gives locks v) ≡ 0
unfolding gives
none_counted locks v = counted_gives locks v (length locks)

-- none of them takes a block or gives one back
gives_leave : (locks : List HeldLock) (v : View) (k : ℕ) → LeaveBlocks v (counted (λ i. one (Give (line_at locks i))) k v)
unfolding LeaveBlocks counted nothing in_turn one
gives_leave locks v zero = tt
gives_leave locks v (suc k) =
    let front : List Step = counted (λ i. one (Give (line_at locks i))) k v in
    leave_then v (after_all v front) front (Give (line_at locks k) ∷ []) refl (gives_leave locks v k) (refl, tt)

pub all_gives_leave : (locks : List HeldLock) (v : View) → LeaveBlocks v (gives locks v)
unfolding gives
all_gives_leave locks v = gives_leave locks v (length locks)

-- a lane that has no number to answer
unanswered : (drawn number : Option ℕ) → ForSome drawn (λ n. number ≡ Some n) → number ≡ None → drawn ≡ None
unanswered None number seen none = refl
unanswered (Some n) number seen none = absurd (none-some n (sym none ∙ seen n refl))

module _ {M : Type 0} (at : M → View → Type 0) (lane : Lane M) (v : View) (is : HoldsUnfound at lane v) where
  abbrev taken : List HeldLock
  taken = lane.locks.items

  back : Ready v (gives taken v) × (after_all v (gives taken v) ≡ record v { locks = []; known = (after_all v (gives taken v)).known })
  back = lawful_gives v taken is.begun.seen.locks (open_may_give v is.begun.log is.unfound) is.begun.lines

  pub back_ready : IsReady (at lane.memory) (gives lane.locks.items)
  unfolding IsReady
  back_ready = (v, (is.begun.seen.memory, back.0))

  pub given_back : (new : Lane M) → IsMade (at lane.memory) (at new.memory) (gives lane.locks.items) → new.locks.items ≡ [] → new.records.items ≡ lane.records.items → new.entries ≡ lane.entries → new.drawn ≡ lane.drawn → new.last ≡ lane.last → IsOfSamePool lane new → new.error ≡ lane.error → new.stopped ≡ lane.stopped
      → IsGivenBack at new v
  unfolding Runs
  given_back new made none records listed drawn last pool error stops =
      let w : View = after_all v (gives taken v) in
      let same = back.1 in
      let b : IsBegun at lane v = is.begun in
      record {
        view = w;
        led = ready_led v (gives taken v) back.0 (drawless v (gives taken v) (let e = ap (λ (u : View). length u.entries) same in omega (arith, e))) (none_counted taken v) (all_gives_leave taken v)
            (record { zone_locks = ap (λ (u : View). u.zone_locks) same; reserved = ap (λ (u : View). u.reserved) same; freed = ap (λ (u : View). u.freed) same });
        seen = ap (λ (u : View). u.seen) same;
        entries = ap (λ (u : View). u.entries) same;
        rests = record {
          seen = record {
            memory = made v b.seen.memory back.0;
            pool = ap (λ (u : View). u.pool) same ∙ (b.seen.pool ∙ sym pool.pool);
            shape = shape_seen lane new v w pool (same_lane-after_all v (gives taken v)) b.seen.shape;
            locks = ap (map lock_of) none ∙ sym (ap (λ (u : View). u.locks) same);
            records = records ∙ (b.seen.records ∙ sym (ap (λ (u : View). map span_of u.log.records) same));
            drawn = λ number some. ap (λ (u : View). u.number) same ∙ b.seen.drawn number (sym drawn ∙ some);
            last = last ∙ (b.seen.last ∙ sym (ap (λ (u : View). last_number_of u.entries) same));
          };
          answered = drawn ∙ unanswered lane.drawn v.number b.seen.drawn b.undrawn;
          unharmed = error ∙ b.unharmed;
          unstopped = stops ∙ b.unstopped;
          unlisted = ap (λ es. es.items) listed ∙ b.unlisted;
          fresh = inr (ap (λ (u : View). u.log) same ∙ b.log, ap (λ (u : View). u.number) same ∙ b.undrawn, ap (λ (u : View). u.call) same ∙ b.untold);
          undrained = subst MayRest (sym same) (rest_kept v (record v { locks = []; known = w.known }) refl refl refl refl (λ alone. refl) b.undrained);
          free = ap (λ (u : View). u.locks) same;
          place = subst HasPlace (sym same) (let p = b.area in record { lane = p.lane; few = p.few; inside = p.inside });
        };
      }

-- a lock was refused, and the others were given back
pub busy : {M : Type 0} (at : M → View → Type 0) (lane new : Lane M) (v : View) → (t : HasNotTaken at lane v) → IsGivenBack at new t.view → IsBusy at new v
busy at lane new v t back =
    let led : IsLed v back.view = led_then v t.view back.view t.led back.led in
    record {
      view = back.view;
      led = led;
      same = led_same v back.view led;
      rests = back.rests;
      entries = back.entries ∙ t.entries;
      line = t.line;
      write = t.write;
      refused = subst (λ seen. Contains seen (takes t.line t.write false)) (sym back.seen) t.refused;
    }

-- a step that was made is a sequence of one
pub made_one : (old new : View → Type 0) (s : Step) → Made old new s → IsMade old new (one s)
unfolding Runs one after_all
made_one old new s made v seen ready = (made v seen).0
