-- A lane that gives a line's lock back keeps the world.
use Rattle.std.proofs.Common.{◌≡◌, ◌≢◌, ℕ, zero, suc, ◌+◌, ◌<◌, ◌⊎◌, inl, inr, ⊎_elim, Bool, true, false, not, eqb, ◌&&◌, ◌||◌, IsTrue, All, Any, Contains, List, [], ◌∷◌, length, slice_get, get_or, None, is_some, refl, sym, ap, ◌∙◌, subst, arith}
use Rattle.std.specs.Int.{bit_at}
use Rattle.std.specs.List.{list_any, filter}
use Rattle.std.proofs.lemmas.Bool.{cases_eq, cases_Bool, cond-true, cond-false, and_parts, or_cases, or_left, or_right, eqb-true, eqb-false, ne_eqb, not-true, not_from_false, false≢true}
use Rattle.std.proofs.lemmas.List.Elements.{All-contains, All-head, All-tail, All-filter, filter_passes}
use Rattle.std.proofs.lemmas.List.Folds.{Any-from_list_any}
use Rattle.std.proofs.lemmas.Option.{none-some}
use Rattle.solo_view.specs.Area.{is_in_area}
use Rattle.solo_view.specs.Held.{is_held, is_under, is_reserved}
use Rattle.solo_view.specs.Log.{Phase, Recorded}
use Rattle.solo_view.specs.Log.Phase.{Idle, Open, Drawn, Sealing, Applying, Clearing, Retiring}
use Rattle.solo_view.specs.Rights.{is_written}
use Rattle.solo_view.specs.Steps.Step.{Give}
use Rattle.solo_view.specs.View.{View, Lock}
use Rattle.solo_memory.specs.LockWords.{without_lane}
use Rattle.solo_world.specs.Entries.{HasNone}
use Rattle.solo_world.specs.Fits.{EntriesFit, ShowsHold, LockFits, LaneFits, PhaseFits}
use Rattle.solo_world.specs.History.{Entry, Flies, settled}
use Rattle.solo_world.specs.Laws.{Keeps, with_view}
use Rattle.solo_world.specs.Lawful.{IsEarly, MayGive, GiveFits}
use Rattle.solo_world.specs.Memory.{Memory, Becomes}
use Rattle.solo_world.specs.Memory.Location.{PoolWord, LockWord}
use Rattle.solo_world.specs.Opening.{Opening}
use Rattle.solo_world.specs.Records.{IsRecordAt}
use Rattle.solo_world.specs.World.{Views, World, IsHold, hold_bit}
use Rattle.solo_world.proofs.Frame.{view_else}
use Rattle.solo_world.proofs.LockBits.{no_two_holds, given_shows, given_bits}
use Rattle.solo_world.proofs.Locations.{pool-lock, other_lock}
use Rattle.solo_world.proofs.Pairs.{entries_again, no_entries, none_again, seal_again}
use Rattle.solo_world.proofs.Relocked.{relocked, relocked_fits, relocks}
use Rattle.solo_world.proofs.Stored.{written_under}
use Rattle.solo_world.proofs.Worlds.{own, hold_kept}

-- an element that passes is kept
any-filter : {X : Type 0} (P : X → Type 0) (q : X → Bool) (xs : List X) → ((x : X) → P x → q x ≡ true) → Any P xs → Any P (filter q xs)
any-filter P q [] passes (n, x, low, at, p) = absurd (omega arith)
any-filter P q (y ∷ xs) passes (zero, x, low, at, p) =
    let keeps : q y ≡ true = passes y (subst P (sym at) p) in
    subst (Any P) (sym (cond-true (q y) (y ∷ filter q xs) (filter q xs) keeps)) (zero, x, omega arith, at, p)
any-filter P q (y ∷ xs) passes (suc n, x, low, at, p) =
    let rest : Any P (filter q xs) = any-filter P q xs passes (n, x, omega arith, at, p) in
    ⊎_elim (λ (keeps : q y ≡ true). subst (Any P) (sym (cond-true (q y) (y ∷ filter q xs) (filter q xs) keeps)) (suc rest.0, rest.1, (let inside = rest.2 in omega arith), rest.3, rest.4))
    (λ (drops : q y ≡ false). subst (Any P) (sym (cond-false (q y) (y ∷ filter q xs) (filter q xs) drops)) rest) (cases_Bool (q y))

pub contains-filter : {X : Type 0} (q : X → Bool) (xs : List X) (x : X) → Contains xs x → q x ≡ true → Contains (filter q xs) x
contains-filter q xs x (n, low, at) passes =
    let t = any-filter (λ y. y ≡ x) q xs (λ y same. ap q same ∙ passes) (n, x, low, at, refl) in (t.0, t.2, subst (λ y. get_or (filter q xs) t.0 y ≡ y) t.4 t.3)

pub filter-contains : {X : Type 0} (q : X → Bool) (xs : List X) (x : X) → Contains (filter q xs) x → Contains xs x
filter-contains q xs x there = All-contains (Contains xs) (filter q xs) x (All-filter q (Contains xs) xs (λ n d low. (n, low, same_default xs n d low))) there
  where
    same_default : {Y : Type 0} (ys : List Y) (n : ℕ) (d : Y) → n < length ys → get_or ys n (get_or ys n d) ≡ get_or ys n d
    same_default [] n d low = absurd (omega arith)
    same_default (y ∷ ys) zero d low = refl
    same_default (y ∷ ys) (suc n) d low = same_default ys n d (omega arith)

pub filter-passed : {X : Type 0} (q : X → Bool) (xs : List X) (x : X) → Contains (filter q xs) x → q x ≡ true
filter-passed q xs x there = All-contains (λ y. q y ≡ true) (filter q xs) x (filter_passes q xs) there

pub list_any-filter : {X : Type 0} (p q : X → Bool) (xs : List X) → All (λ x. p x ≡ true → q x ≡ true) xs → list_any p xs ≡ true → list_any p (filter q xs) ≡ true
list_any-filter p q [] all e = e
list_any-filter p q (x ∷ xs) all e =
    let rest : list_any p xs ≡ true → list_any p (filter q xs) ≡ true = list_any-filter p q xs (All-tail (λ y. p y ≡ true → q y ≡ true) x xs all) in
    ⊎_elim (λ (keeps : q x ≡ true). ap (list_any p) (cond-true (q x) (x ∷ filter q xs) (filter q xs) keeps)
    ∙ ⊎_elim (λ (here : p x ≡ true). or_left (p x) (list_any p (filter q xs)) here) (λ (later : list_any p xs ≡ true). or_right (p x) (list_any p (filter q xs)) (rest later)) (or_cases (p x) (list_any p xs) e))
    (λ (drops : q x ≡ false). ap (list_any p) (cond-false (q x) (x ∷ filter q xs) (filter q xs) drops)
    ∙ ⊎_elim (λ (here : p x ≡ true). absurd (false≢true (sym drops ∙ All-head (λ y. p y ≡ true → q y ≡ true) x xs all here))) (λ (later : list_any p xs ≡ true). rest later) (or_cases (p x) (list_any p xs) e))
    (cases_Bool (q x))

-- no object was found under the lock
pub no_block : (l : Lock) (w : ℕ) → l.block ≡ None → (l.write && is_some l.block && is_under w l) ≡ true → ⊥
no_block l w none e = false≢true (ap is_some (sym none) ∙ (and_parts l.write (is_some l.block) (and_parts (l.write && is_some l.block) (is_under w l) e).0).1)

module _ (o : Opening) (old : Memory) (views : Views) (log : List Entry) (decided : ℕ → Bool) (world : World o old views log decided) (k : ℕ) (inside : k < o.lanes) (v : View) (is : views k ≡ v)
    (new : Memory) (line : ℕ) (moves : Becomes (LockWord line) (without_lane k (old (LockWord line))) old new) (may : MayGive v line) where
  mine : LaneFits o old (settled o log decided) (Flies log decided k) k v
  mine = own o old views log decided world k inside v is

  abbrev others : List Lock
  others = filter (λ (l : Lock). not (eqb l.line line)) v.locks

  -- the locks alone
  abbrev bare : View
  bare = record v { locks = others }

  -- the lane's hold
  hold : (l : Lock) × (Contains v.locks l × (l.line ≡ line))
  hold = let t = Any-from_list_any (λ (l : Lock). eqb l.line line) v.locks may.held in (t.1, ((t.0, t.2, t.3), eqb-true t.1.line line t.4))

  -- in other phases no lock goes back
  no_give : All (λ (l : Lock). l.line ≡ line → ⊥) v.locks → ⊥
  no_give none = All-contains (λ (l : Lock). l.line ≡ line → ⊥) v.locks hold.0 none hold.1.0 hold.1.1

  -- nothing is in the log, or nothing was found under the lock
  unused : (phase : Phase) → v.log.phase ≡ phase → IsEarly phase × (((v.log.records ≡ []) × (v.log.entries ≡ [])) ⊎ All (λ (l : Lock). l.line ≡ line → l.block ≡ None) v.locks)
  unused Idle e = (tt, inl ((subst (PhaseFits (Flies log decided k) v) e mine.phase).no_records, subst (λ p. HasNone p v) e mine.entries.none))
  unused (Open slot pair) e = (tt, inr (subst (λ p. All (λ (l : Lock). l.line ≡ line → GiveFits v l p) v.locks) e may.fits))
  unused Drawn e = absurd (no_give (subst (λ p. All (λ (l : Lock). l.line ≡ line → GiveFits v l p) v.locks) e may.fits))
  unused Sealing e = absurd (no_give (subst (λ p. All (λ (l : Lock). l.line ≡ line → GiveFits v l p) v.locks) e may.fits))
  unused (Applying applied) e = absurd (no_give (subst (λ p. All (λ (l : Lock). l.line ≡ line → GiveFits v l p) v.locks) e may.fits))
  unused Clearing e = absurd (no_give (subst (λ p. All (λ (l : Lock). l.line ≡ line → GiveFits v l p) v.locks) e may.fits))
  unused Retiring e = absurd (no_give (subst (λ p. All (λ (l : Lock). l.line ≡ line → GiveFits v l p) v.locks) e may.fits))

  -- what is written stays so, where nothing was found under the lock
  still_written : All (λ (l : Lock). l.line ≡ line → l.block ≡ None) v.locks → (w : ℕ) → IsTrue (is_written v w) → IsTrue (is_written bare w)
  still_written found w written = list_any-filter (λ (l : Lock). l.write && is_some l.block && is_under w l) (λ (l : Lock). not (eqb l.line line)) v.locks
      (λ n d low under. not_from_false (eqb (get_or v.locks n d).line line) (ne_eqb (get_or v.locks n d).line line (λ same. no_block (get_or v.locks n d) w (found n d low same) under))) written

  -- what is recorded may still be written, and is known
  kept : (slot : ℕ) (r : Recorded) → IsRecordAt v slot r → (w : ℕ) → IsTrue (is_written v w) → Contains v.known w → IsTrue (is_written bare w) × Contains (filter (is_held bare) v.known) w
  kept slot r there w written known =
      ⊎_elim (λ (none : (v.log.records ≡ []) × (v.log.entries ≡ [])). absurd (none-some r (sym (ap (λ rs. slice_get rs slot) none.0) ∙ there)))
      (λ (found : All (λ (l : Lock). l.line ≡ line → l.block ≡ None) v.locks).
      let still : is_written bare w ≡ true = still_written found w written in
      let held : is_held bare w ≡ true = or_left (is_in_area v.lane w || list_any (is_under w) others) (is_reserved bare w) (or_right (is_in_area v.lane w) (list_any (is_under w) others) (written_under others w still)) in
      (still, contains-filter (is_held bare) v.known w known held))
      (unused v.log.phase refl).1

  entries_kept : EntriesFit (relocked v others (filter (is_held bare) v.known) v.seen)
  entries_kept =
      let v' : View = relocked v others (filter (is_held bare) v.known) v.seen in
      ⊎_elim (λ (none : (v.log.records ≡ []) × (v.log.entries ≡ [])).
      no_entries v v' none.1 refl (mine.entries.seal ∙ sym (seal_again v.log.phase v v' refl)) (none_again v.log.phase v v' refl mine.entries.none))
      (λ (found : All (λ (l : Lock). l.line ≡ line → l.block ≡ None) v.locks). entries_again v v' refl refl (λ w low high. refl) (still_written found) (λ i f at free. inr free) refl refl mine.entries)
      (unused v.log.phase refl).1

  -- the other lanes' holds of the line stay
  shows_on : (j : ℕ) (write : Bool) → j < o.lanes → j ≢ k → ShowsHold j write (old (LockWord line)) → ShowsHold j write (new (LockWord line))
  shows_on j true low other shows =
      let l : Lock = hold.0 in
      let mine_shows : ShowsHold k l.write (old (LockWord line)) = subst (λ n. ShowsHold k l.write (old (LockWord n))) hold.1.1 (All-contains (LockFits o old k) v.locks l mine.locks hold.1.0).shows in
      absurd (no_two_holds k j (old (LockWord line)) l.write (λ same. other (sym same)) mine_shows shows)
  shows_on j false low other shows = let most = world.sound.most_lanes in subst (ShowsHold j false) (sym moves.1) (given_shows j k (old (LockWord line)) (omega arith) (omega arith) other shows)

  abbrev known : List ℕ
  known = filter (is_held bare) v.known

  own_bit : (bit : ℕ) (write : Bool) → bit ≢ k → bit ≢ 32 + k → bit ≡ hold_bit k write → ⊥
  own_bit bit true not_reads not_writes e = not_writes e
  own_bit bit false not_reads not_writes e = not_reads e

  -- a set bit of a lock word is of a lane that holds it still
  lines : (at bit : ℕ) → bit_at (new (LockWord at)) bit ≡ 1 → IsHold (with_view views k (relocked v others known v.seen)) o.lanes at bit
  lines at bit set = ⊎_elim
      (λ (this : at ≡ line).
      let most = world.sound.most_lanes in
      let t = given_bits k (old (LockWord line)) bit (omega arith) (ap (λ n. bit_at n bit) (sym moves.1) ∙ (ap (λ n. bit_at (new (LockWord n)) bit) (sym this) ∙ set)) in
      let before : IsHold views o.lanes line bit = world.each_line line bit t.0 in
      ⊎_elim (λ (same : before.0 ≡ k). let l = before.2 in
      absurd (own_bit bit l.1.write t.1 t.2 (l.4.1 ∙ ap (λ i. hold_bit i l.1.write) same)))
      (λ (other : before.0 ≢ k). subst (λ n. IsHold (with_view views k (relocked v others known v.seen)) o.lanes n bit) (sym this)
      (before.0, before.1, subst (λ (u : View). Any (λ (l : Lock). (l.line ≡ line) × (bit ≡ hold_bit before.0 l.write)) u.locks) (sym (view_else views k (relocked v others known v.seen) before.0 other)) before.2))
      (cases_eq before.0 k))
      (λ (differ : at ≢ line).
      hold_kept o old views log decided world k inside v is (relocked v others known v.seen) at bit
      (any-filter (λ (l : Lock). (l.line ≡ at) × (bit ≡ hold_bit k l.write)) (λ (l : Lock). not (eqb l.line line)) v.locks (λ l t. not_from_false (eqb l.line line) (ne_eqb l.line line (λ same. differ (sym t.0 ∙ same)))))
      (world.each_line at bit (ap (λ n. bit_at n bit) (sym (moves.0 (LockWord at) (other_lock at line differ))) ∙ set)))
      (cases_eq at line)

  given : World o new (with_view views k (relocked v others known v.seen)) log decided
  given = relocks o old views log decided world k inside v is new line others known v.seen moves.0 shows_on
      (relocked_fits v others known v.seen o old new (settled o log decided) (Flies log decided k) k (unused v.log.phase refl).0 (λ w. moves.0 (PoolWord w) (pool-lock w line))
      (filter-contains (is_held bare) v.known)
      (λ w there. filter-passed (is_held bare) v.known w there)
      (λ n d low.
      let l : Lock = get_or others n d in
      let f = All-filter (λ (m : Lock). not (eqb m.line line)) (LockFits o old k) v.locks mine.locks n d low in
      let apart = eqb-false l.line line (not-true (eqb l.line line) (filter_passes (λ (m : Lock). not (eqb m.line line)) v.locks n d low)) in
      record { shows = subst (ShowsHold k l.write) (sym (moves.0 (LockWord l.line) (other_lock l.line line apart))) f.shows; found = f.found })
      kept entries_kept mine)
      lines (λ can. can)

pub gives : (line : ℕ) → Keeps (Give line)
gives line o old new views log decided k v world inside is lawful moves = (given o old views log decided world k inside v is new line moves lawful.allowed, tt)
