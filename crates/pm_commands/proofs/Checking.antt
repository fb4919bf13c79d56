-- What a check comes to, said of the bytes of files.
use Rattle.std.proofs.Common.{◌≡◌, ℕ, ◌+◌, ◌*◌, ◌%◌, List, length, Bool, IsTrue, IfOk, OnOk, Result, Ok, Err, Option, None, Some, is_some, option_map, inl, inr, sym, subst, arith}
use Rattle.std.specs.Borrow.{Bor}
use Rattle.pm_words.specs.Words.{bytes_of, words_of}
use Rattle.pm_objects.specs.declared.pool.PoolView.{PoolView}
use Rattle.pm_image.specs.Means.{IsMeaning}
use Rattle.pm_image.specs.declared.fault.ImageFault.{ImageFault}
use Rattle.pm_image.proofs.Meanings.{one_fault}
use Rattle.pm_check.specs.Verdicts.{HasPool, IsMended}
use Rattle.pm_options.specs.Words.{Check}
use Rattle.pm_shelf.specs.Outside.{Adds, Held, IsWhole, MayAddPart}
use Rattle.pm_commands.specs.Checked.{HasFaultLeft, IsChecked, IsRepair, MayAddMended}
use Rattle.pm_commands.specs.Lines.{consistent_line, mended_lines}
use Rattle.pm_commands.specs.PoolFiles.{BytesFail, BytesMean, Mends, limit}

-- a pool has whole lines of words
pub whole_lines_of : (image : List ℕ) → HasPool image → length image % 8 ≡ 0
whole_lines_of image has =
    let is : IsMeaning image has.0 = has.1 in
    let size : 4096 + 8192 * is.lanes + 266240 * is.zones ≡ 8 * length image = is.has_header.has_shape.size in
    omega arith

-- bytes that can't be whole words can't be mended
pub broken_unmended : (bytes : List ℕ) (found : ImageFault) → (length bytes % 8 ≡ 0 → ⊥) → (mended : List ℕ) → Mends bytes found mended → ⊥
broken_unmended bytes found broken mended mends = broken mends.in_words

-- an image that can't be mended is of bytes that can't
pub image_unmended : (bytes image : List ℕ) (found : ImageFault) (repair : Bool) → image ≡ words_of bytes → ((new : List ℕ) → IsTrue repair → IsMended image found new → ⊥)
    → (mended : List ℕ) → IsTrue repair → Mends bytes found mended → ⊥
image_unmended bytes image found repair is none mended asked mends = none mends.image asked (subst (λ (words : List ℕ). IsMended words found mends.image) (sym is) mends.is_mended)

pub image_mended : (bytes image new mended : List ℕ) (found : ImageFault) → length bytes % 8 ≡ 0 → image ≡ words_of bytes → IsMended image found new → mended ≡ bytes_of new → Mends bytes found mended
image_mended bytes image new mended found in_words is mends are = record {
  in_words = in_words;
  image = new;
  is_mended = subst (λ (words : List ℕ). IsMended words found new) is mends;
  are = are;
}

-- a name for the mended pool is given where one is asked for
pub asked_for : (repair : Option (Bor (List ℕ))) (asked : Bool) → asked ≡ is_some repair → (name : List ℕ) → option_map (λ (given : Bor (List ℕ)). given.now) repair ≡ Some name → IsTrue asked
asked_for None asked is name some = absurd (let clash : None ≡ Some name = some in cc)
asked_for (Some given) asked is name some = is

-- bytes that are mended have one fault
pub mended_fault : (bytes mended : List ℕ) (found other : ImageFault) → BytesFail bytes found → Mends bytes other mended → other ≡ found
mended_fault bytes mended found other (inl broken) mends = absurd (broken.0 mends.in_words)
mended_fault bytes mended found other (inr fails) mends = one_fault (words_of bytes) other found mends.is_mended.fault fails.1

module _ (c : Check) (held read after : Option Held) (bytes : List ℕ) (kept : read ≡ held) (whole : IsWhole held c.pool limit bytes) where
  -- the pool has no fault
  pub consistent : (pool : PoolView) → BytesMean bytes pool → (text : List ℕ) → text ≡ consistent_line → IsChecked c held read text
  consistent pool means text told = inl (record { bytes = bytes; whole = whole; pool = pool; means = means; kept = kept; told = told })

  -- it has one, and no mended pool is asked for, or there is none
  pub fault_left : (found : ImageFault) → BytesFail bytes found → (repair : Bool) → ((name : List ℕ) → c.repair ≡ Some name → IsTrue repair)
      → ((mended : List ℕ) → IsTrue repair → Mends bytes found mended → ⊥) → HasFaultLeft c held found
  fault_left found fails repair asked none = record {
    bytes = bytes;
    whole = whole;
    fails = fails;
    unmended = λ name mended is mends. none mended (asked name is) mends;
  }

  module _ (found : ImageFault) (name mended : List ℕ) (asked : c.repair ≡ Some name) (mends : Mends bytes found mended) where
    pub is_repair : IsRepair c held found name mended
    is_repair = record { asked = asked; bytes = bytes; whole = whole; mends = mends }

    -- it was mended and written
    pub repaired : (text : List ℕ) → Adds read after name mended → text ≡ mended_lines found → IsChecked c held after text
    repaired text added told = inr (record {
      found = found;
      name = name;
      mended = mended;
      repair = record { asked = asked; bytes = bytes; whole = whole; mends = mends };
      added = subst (λ (old : Option Held). Adds old after name mended) kept added;
      told = told;
    })

    -- whether it was written whole or not
    pub repair_changes : MayAddPart read after name mended → MayAddMended c held after
    repair_changes part = inr (record {
      found = found;
      name = name;
      mended = mended;
      repair = record { asked = asked; bytes = bytes; whole = whole; mends = mends };
      part = subst (λ (old : Option Held). MayAddPart old after name mended) kept part;
    })

    -- where it was written
    pub repaired_if : {T E : Type 0} (result : Result T E) (items : T → List ℕ) → IfOk result (λ (t : T). items t ≡ mended_lines found) → OnOk result (Adds read after name mended)
        → IfOk result (λ (t : T). IsChecked c held after (items t))
    repaired_if (Ok text) items told added = repaired (items text) added told
    repaired_if (Err e) items told added = tt
