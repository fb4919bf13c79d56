-- The block of an object, by the list of a lane's locks.
use Rattle.std.proofs.Common.{◌≡◌, ℕ, ◌-◌, ◌/◌, ◌%◌, ◌≤◌, ◌&&◌, Bool, true, false, eqb, List, map, Option, Some, None, IfSome, IsNone, sym, ◌∙◌, ap, arith}
use Rattle.std.specs.List.{All, find}
use Rattle.std.specs.Option.{is_some}
use Rattle.std.proofs.lemmas.Bool.{and_parts, eqb-true, false≢true}
use Rattle.std.proofs.lemmas.List.Elements.{All-contains}
use Rattle.std.proofs.Math.Bool.{or-false}
use Rattle.solo_crash.proofs.CallBlocks.{any_alike}
use Rattle.solo_crash.specs.OpenCall.{lock_of}
use Rattle.solo_model.specs.Transaction.{is_locked}
use Rattle.solo_world.specs.Lanes.{lock_of as view_lock}
use Rattle.solo_world.specs.declared.lane.HeldLock.{HeldLock}
use Rattle.solo_tx.proofs.HeldLocks.{line_locked}
use Rattle.solo_tx.specs.Ranges.{is_lock_of}
use Rattle.solo_transaction.proofs.Owned.{find_none, find_some}
use Rattle.solo_transaction.specs.AtWork.{HasBlock}
use Rattle.solo_transaction.specs.Freeing.{writes_line}

module _ (locks : List HeldLock) (off : ℕ) (high : 64 ≤ off) (even : off % 64 ≡ 0) where
  abbrev line : ℕ
  line = off / 64 - 1

  pub block_is_held : (lock : HeldLock) (block : Option ℕ) → find (writes_line line) locks ≡ Some lock → lock.block ≡ block → IfSome block (λ lines. HasBlock locks off lines)
  block_is_held lock None there is = tt
  block_is_held lock (Some lines) there is =
      let t = find_some (writes_line line) locks lock there in
      let parts = and_parts (eqb lock.line line) lock.write t.1 in
      let at : lock.line ≡ line = eqb-true lock.line line parts.0 in
      record { lock = lock; held = t.0; write = parts.1; block = is; place = omega (arith, at, high, even) }

  pub no_lock : find (writes_line line) locks ≡ None → is_locked (map lock_of (map view_lock locks)) off true ≡ false
  no_lock none =
      line_locked locks line off true (omega (arith, high, even))
      ∙ any_alike (is_lock_of line true) (writes_line line) locks (λ l there. ap (λ (b : Bool). eqb l.line line && b) (or-false l.write))
      ∙ find_none (writes_line line) locks none

-- a lock that was found has a block
pub some_block : (locks : List HeldLock) (line : ℕ) (lock : HeldLock) → find (writes_line line) locks ≡ Some lock → All (λ (l : HeldLock). is_some l.block ≡ true) locks → is_some lock.block ≡ true
some_block locks line lock there all = All-contains (λ (l : HeldLock). is_some l.block ≡ true) locks lock all (find_some (writes_line line) locks lock there).0

pub none_clashes : {X : Type 0} (block : Option ℕ) → is_some block ≡ true → IsNone block → X
none_clashes None some none = absurd cc
none_clashes (Some lines) some none = absurd (false≢true (sym none))
