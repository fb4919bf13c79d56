-- The lines that commands print, each with its line feed: docs/COMMANDS.md.
use Rattle.std.specs.Prelude.{ℕ, ◌==◌, if◌then◌else◌, List, ◌++◌, codes, string_bytes}
use Rattle.std.specs.Fmt.{decimal}
use Rattle.pm_layout.specs.Layout.{pool_size}
use Rattle.pm_layout.specs.Texts.{bad_shape_text}
use Rattle.pm_pool.specs.Created.{Wanted, root_offset}
use Rattle.pm_pool.specs.Texts.{create_fault_text}
use Rattle.pm_image.specs.Texts.{fault_text}
use Rattle.pm_image.specs.declared.fault.ImageFault.{ImageFault}
use Rattle.pm_reopen.specs.declared.end.RecoverEnd.{RecoverEnd}
use Rattle.pm_reopen.specs.declared.end.RecoverEnd.TheVariants as end
use Rattle.pm_commands.specs.declared.failure.Failure.{Failure}
use Rattle.pm_commands.specs.declared.failure.Failure.TheVariants.{Usage, BadShape, BadValue, Faulty, Fault, OtherLayout, FewerLanes, NotRead, TooLong, BadScript, NotWritten, NoMemory}
use Rattle.pm_script.specs.Texts.{bad_line_text}
use Rattle.pm_script.specs.declared.fault.BadLine.{BadLine}
use Rattle.pm_commands.specs.declared.status.Status.{Status}
use Rattle.pm_commands.specs.declared.status.Status.TheVariants as status

abbrev pub usage_line : List ℕ
usage_line = codes "usage\n"

-- a value, or a pool, is refused, and this text says why
abbrev pub refused_line : List ℕ → List ℕ
refused_line text = codes "refused " ++ text ++ codes "\n"

-- what `check` prints of a pool without a fault
abbrev pub consistent_line : List ℕ
consistent_line = codes "consistent\n"

-- of one with this fault
abbrev pub fault_line : ImageFault → List ℕ
fault_line found = codes "fault " ++ fault_text found ++ codes "\n"

-- and of one that was mended
abbrev pub mended_lines : ImageFault → List ℕ
mended_lines found = codes "fault " ++ fault_text found ++ codes "\nmended\n"

-- what `recover` prints
abbrev pub recover_line : RecoverEnd → List ℕ
recover_line (end.Whole calls) = codes "recovered after " ++ (decimal calls ++ codes " calls\n")
recover_line (end.Stopped calls) = codes "stopped after " ++ (decimal calls ++ codes " calls\n")

-- the pool has another layout name than was asked for
abbrev pub other_layout_line : List ℕ → List ℕ → List ℕ
other_layout_line asked kept = codes "refused Layout asked " ++ asked ++ codes " kept " ++ kept ++ codes "\n"

-- the script is of more lanes than run
abbrev pub fewer_lanes_line : ℕ → ℕ → List ℕ
fewer_lanes_line asked kept = codes "refused Lanes asked " ++ (decimal asked ++ (codes " kept " ++ (decimal kept ++ codes "\n")))

-- the script's first bad line
abbrev pub bad_script_line : BadLine → List ℕ
bad_script_line bad = bad_line_text bad ++ codes "\n"

abbrev pub read_fault_line : List ℕ → List ℕ
read_fault_line name = codes "read fault " ++ name ++ codes "\n"

abbrev pub too_long_line : List ℕ → List ℕ
too_long_line name = codes "too long " ++ name ++ codes "\n"

abbrev pub write_fault_line : List ℕ → List ℕ
write_fault_line name = codes "write fault " ++ name ++ codes "\n"

abbrev pub no_memory_line : List ℕ
no_memory_line = codes "no memory\n"

-- what is printed where a command ends with another status than 0. Of faulty words `clap` says more, and no definition says what
abbrev pub failure_line : Failure → List ℕ
failure_line (Usage more) = usage_line ++ string_bytes more
failure_line BadShape = refused_line bad_shape_text
failure_line (BadValue fault) = refused_line (create_fault_text fault)
failure_line (Faulty found) = refused_line (fault_text found)
failure_line (Fault found) = fault_line found
failure_line (OtherLayout asked kept) = other_layout_line asked.now kept
failure_line (FewerLanes asked kept) = fewer_lanes_line asked kept
failure_line (NotRead name) = read_fault_line name.now
failure_line (TooLong name) = too_long_line name.now
failure_line (BadScript bad) = bad_script_line bad
failure_line (NotWritten name) = write_fault_line name.now
failure_line NoMemory = no_memory_line

-- the status that goes with it
abbrev pub failure_status : Failure → Status
failure_status (Usage more) = status.Usage
failure_status BadShape = status.Refused
failure_status (BadValue fault) = status.Refused
failure_status (Faulty found) = status.Refused
failure_status (Fault found) = status.Refused
failure_status (OtherLayout asked kept) = status.Refused
failure_status (FewerLanes asked kept) = status.Refused
failure_status (NotRead name) = status.ReadFault
failure_status (TooLong name) = status.ReadFault
failure_status (BadScript bad) = status.BadScript
failure_status (NotWritten name) = status.WriteFault
failure_status NoMemory = status.NoMemory

abbrev pub root_text : ℕ → ℕ → List ℕ
root_text lanes root = if root == 0 then codes "none" else decimal (root_offset lanes root)

abbrev pub created_line_of : ℕ → ℕ → ℕ → List ℕ
created_line_of lanes zones root = codes "created " ++ (decimal (pool_size lanes zones) ++ (codes " root " ++ (root_text lanes root ++ codes "\n")))

-- what `create` prints
abbrev pub created_line : Wanted → List ℕ
created_line w = created_line_of w.lanes w.zones w.root
