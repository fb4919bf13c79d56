-- A lane's take of a line's lock, won or refused, keeps the world.
use Rattle.std.proofs.Common.{◌≡◌, ◌≢◌, ℕ, ◌<◌, ◌⊎◌, inl, ⊎_elim, Bool, true, false, eqb, ◌&&◌, ◌||◌, Any, List, [], ◌∷◌, ◌++◌, length, get_or, None, is_some, is_none, refl, sym, ap, ◌∙◌, subst, arith, length-append, inr}
use Rattle.std.specs.Int.{bit_at}
use Rattle.std.specs.List.{list_any}
use Rattle.std.proofs.lemmas.Bool.{cases_eq, and_parts, and_from, or_left, eq-eqb, false≢true}
use Rattle.std.proofs.lemmas.List.{get_or_append_left}
use Rattle.std.proofs.lemmas.List.Elements.{All-push}
use Rattle.std.proofs.lemmas.List.Quantifiers.{Any-push}
use Rattle.std.proofs.lemmas.List.Folds.{list_any-append, list_any_at}
use Rattle.solo_view.specs.Area.{is_in_area}
use Rattle.solo_view.specs.Held.{is_under, is_reserved}
use Rattle.solo_view.specs.Steps.{Step}
use Rattle.solo_view.specs.Steps.Step.{TakeWrite, TakeRead}
use Rattle.solo_view.specs.View.{View, Lock}
use Rattle.solo_world.specs.Fits.{ShowsHold, LockFits, LaneFits}
use Rattle.solo_world.specs.History.{Entry, Flies, settled}
use Rattle.solo_world.specs.Laws.{Keeps, with_view}
use Rattle.solo_world.specs.Lawful.{IsEarly, is_holder}
use Rattle.solo_world.specs.Memory.{Memory, IsSameBut}
use Rattle.solo_world.specs.Memory.Location.{PoolWord, LockWord}
use Rattle.solo_world.specs.Opening.{Opening}
use Rattle.solo_world.specs.World.{Views, World, IsHold, hold_bit, is_low, may_draw}
use Rattle.solo_world.proofs.Reserved.{held_by_parts}
use Rattle.solo_world.proofs.Frame.{view_here}
use Rattle.solo_world.proofs.LockBits.{free_shows_none, taken_write, taken_read, written_bits, read_shows, read_shows_on, read_bits}
use Rattle.solo_world.proofs.Locations.{pool-lock, other_lock}
use Rattle.solo_world.proofs.Pairs.{entries_again}
use Rattle.solo_world.proofs.Relocked.{relocked, relocked_fits, relocks}
use Rattle.solo_world.proofs.StepSeen.{told, not_low_more}
use Rattle.solo_world.proofs.Worlds.{own, hold_kept, room_kept}

any-left : {X : Type 0} (P : X → Type 0) (xs ys : List X) → Any P xs → Any P (xs ++ ys)
any-left P xs ys (n, x, low, at, p) = (n, x, (let e = length-append xs ys in omega arith), get_or_append_left xs ys x n low ∙ at, p)

pub list_any-left : {X : Type 0} (p : X → Bool) (xs ys : List X) → list_any p xs ≡ true → list_any p (xs ++ ys) ≡ true
list_any-left p xs ys e = list_any-append p xs ys ∙ or_left (list_any p xs) (list_any p ys) e

pub low_before : (v : View) (s : Step) → is_low s ≡ false → (is_none v.number && list_any is_low (v.seen ++ s ∷ [])) ≡ true → may_draw v ≡ true
low_before v s other can = let t = and_parts (is_none v.number) (list_any is_low (v.seen ++ s ∷ [])) can in and_from (is_none v.number) (list_any is_low v.seen) t.0 (not_low_more v.seen s other t.1)

module _ (o : Opening) (old : Memory) (views : Views) (log : List Entry) (decided : ℕ → Bool) (world : World o old views log decided) (k : ℕ) (inside : k < o.lanes) (v : View) (is : views k ≡ v) where
  mine : LaneFits o old (settled o log decided) (Flies log decided k) k v
  mine = own o old views log decided world k inside v is

  -- the lock is won: its word shows the hold, those of the others stay, and no other bit is set
  wins : (new : Memory) (line : ℕ) (write : Bool) (s : Step) → is_low s ≡ false → IsEarly v.log.phase → IsSameBut (LockWord line) old new → is_holder v.locks line ≡ false
      → ShowsHold k write (new (LockWord line))
      → ((j : ℕ) (held : Bool) → j < o.lanes → j ≢ k → ShowsHold j held (old (LockWord line)) → ShowsHold j held (new (LockWord line)))
      → ((bit : ℕ) → bit_at (new (LockWord line)) bit ≡ 1 → (bit ≡ hold_bit k write) ⊎ (bit_at (old (LockWord line)) bit ≡ 1))
      → World o new (with_view views k (record v { locks = v.locks ++ record { line = line; write = write; block = None } ∷ []; seen = v.seen ++ s ∷ [] })) log decided
  wins new line write s other_step early same free shows others bits =
      let l : Lock = record { line = line; write = write; block = None } in
      let locks : List Lock = v.locks ++ l ∷ [] in
      let v' : View = relocked v locks v.known (v.seen ++ s ∷ []) in
      let differs : (n : ℕ) (d : Lock) → n < length v.locks → (get_or v.locks n d).line ≢ line =
      λ n d low e. false≢true (sym free ∙ list_any_at (λ (m : Lock). eqb m.line line) v.locks n d low (eq-eqb (get_or v.locks n d).line line e)) in
      let holds : (at bit : ℕ) → IsHold views o.lanes at bit → IsHold (with_view views k v') o.lanes at bit =
      λ at bit. hold_kept o old views log decided world k inside v is v' at bit (any-left (λ (m : Lock). (m.line ≡ at) × (bit ≡ hold_bit k m.write)) v.locks (l ∷ [])) in
      relocks o old views log decided world k inside v is new line locks v.known (v.seen ++ s ∷ []) same others
      (relocked_fits v locks v.known (v.seen ++ s ∷ []) o old new (settled o log decided) (Flies log decided k) k early (λ w. same (PoolWord w) (pool-lock w line))
      (λ w there. there)
      (λ w there. held_by_parts (is_in_area v.lane w || list_any (is_under w) v.locks) (is_in_area v.lane w || list_any (is_under w) locks) (is_reserved v w) (is_reserved v' w)
      (held_by_parts (is_in_area v.lane w) (is_in_area v.lane w) (list_any (is_under w) v.locks) (list_any (is_under w) locks) (λ area. area) (list_any-left (is_under w) v.locks (l ∷ []))) (λ own_word. own_word) (mine.picture.held w there))
      (All-push (LockFits o new k) v.locks l
      (λ n d low. let f = mine.locks n d low in record { shows = subst (ShowsHold k (get_or v.locks n d).write) (sym (same (LockWord (get_or v.locks n d).line) (other_lock (get_or v.locks n d).line line (differs n d low)))) f.shows; found = f.found })
      (record { shows = shows; found = tt }))
      (λ slot r there w written known. (list_any-left (λ (m : Lock). m.write && is_some m.block && is_under w m) v.locks (l ∷ []) written, known))
      (entries_again v v' refl refl (λ w low high. refl) (λ w written. list_any-left (λ (m : Lock). m.write && is_some m.block && is_under w m) v.locks (l ∷ []) written) (λ i f at free. inr free) refl refl mine.entries)
      mine)
      (λ at bit set. ⊎_elim
      (λ (this : at ≡ line). ⊎_elim
      (λ (new_bit : bit ≡ hold_bit k write).
      let here : Any (λ (m : Lock). (m.line ≡ at) × (bit ≡ hold_bit k m.write)) locks = Any-push (λ (m : Lock). (m.line ≡ at) × (bit ≡ hold_bit k m.write)) v.locks l (sym this, new_bit) in
      (k, inside, subst (λ (u : View). Any (λ (m : Lock). (m.line ≡ at) × (bit ≡ hold_bit k m.write)) u.locks) (sym (view_here views k v')) here))
      (λ (before : bit_at (old (LockWord line)) bit ≡ 1). holds at bit (world.each_line at bit (ap (λ n. bit_at (old (LockWord n)) bit) this ∙ before)))
      (bits bit (ap (λ n. bit_at (new (LockWord n)) bit) (sym this) ∙ set)))
      (λ (differ : at ≢ line). holds at bit (world.each_line at bit (ap (λ n. bit_at n bit) (sym (same (LockWord at) (other_lock at line differ))) ∙ set)))
      (cases_eq at line))
      (low_before v s other_step)

pub takes_write : (line : ℕ) (won : Bool) → Keeps (TakeWrite line won)
takes_write line true o old new views log decided k v world inside is lawful moves =
    let t = taken_write k (old (LockWord line)) (new (LockWord line)) moves.1 in (
      wins o old views log decided world k inside v is new line true (TakeWrite line true) refl lawful.allowed.early moves.0 lawful.allowed.free t.1
          (λ j held low other shows. absurd (free_shows_none j held (subst (ShowsHold j held) t.0 shows)))
          (λ bit set. inl (written_bits k (new (LockWord line)) bit t.1 set)),
      tt,
    )
takes_write line false o old new views log decided k v world inside is lawful moves = (
  told o old views log decided world k inside v is new (v.seen ++ TakeWrite line false ∷ []) v.call v.actions moves.0
      (room_kept o old views log decided world k inside v is (record v { seen = v.seen ++ TakeWrite line false ∷ [] }) (low_before v (TakeWrite line false) refl)),
  tt,
)

pub takes_read : (line : ℕ) (won : Bool) → Keeps (TakeRead line won)
takes_read line true o old new views log decided k v world inside is lawful moves =
    let t = taken_read k (old (LockWord line)) (new (LockWord line)) moves.1 in
    let most = world.sound.most_lanes in (
      wins o old views log decided world k inside v is new line false (TakeRead line true) refl lawful.allowed.early moves.0 lawful.allowed.free (subst (ShowsHold k false) (sym t.1) (read_shows k (old (LockWord line)) (omega arith) t.0))
          (λ j held low other shows. subst (ShowsHold j held) (sym t.1) (read_shows_on j k (old (LockWord line)) held (omega arith) t.0 shows))
          (λ bit set. read_bits k (old (LockWord line)) bit (ap (λ n. bit_at n bit) (sym t.1) ∙ set)),
      tt,
    )
takes_read line false o old new views log decided k v world inside is lawful moves = (
  told o old views log decided world k inside v is new (v.seen ++ TakeRead line false ∷ []) v.call v.actions moves.0
      (room_kept o old views log decided world k inside v is (record v { seen = v.seen ++ TakeRead line false ∷ [] }) (low_before v (TakeRead line false) refl)),
  tt,
)
