-- A whole script: its lines, in order, and the output that answers them.
use Rattle.std.specs.Prelude.{◌≡◌, ◌≢◌, ℕ, ◌==◌, false, List, [], ◌∷◌, ◌++◌, codes, Option, None, Some, IfSome}
use Rattle.std.specs.List.{slice_split, All}
use Rattle.std.specs.Borrow.{Bor}
use Rattle.std.specs.declared.sync.ledger.Ledger.{Ghosts}
use Rattle.std.specs.Io.KnownBytes.{Appends, Consumes}
use Rattle.journal.specs.Config.{config_refusal}
use Rattle.journal.specs.Plain.{Limits}
use Rattle.events.specs.declared.fault.CoreFault.{CoreFault}
use Rattle.events.specs.declared.fault.CoreFault.TheVariants.{BadConfig}
use Rattle.events.specs.App.{Policy}
use Rattle.script.specs.declared.script_line.Key.{Key}
use Rattle.script.specs.declared.script_line.ScriptLine.{ScriptLine}
use Rattle.script.specs.declared.script_line.ScriptLine.TheVariants as line
use Rattle.script.specs.declared.run.Run.{Run}
use Rattle.script.specs.declared.run.Run.TheVariants as run
use Rattle.script.specs.Printing.{fault_name}
use Rattle.script.specs.ScriptLine.{IsReadAs}
use Rattle.script.specs.Setup.{with_limit, new_core}
use Rattle.script.specs.Playing.{PlainPlay, new_play, play_of, Plays}

-- how far a script has come: limits may be set, or the server is there, or there is none and nothing is answered any more
pub data PlainRun : Type 0 where
  Setting : Limits → PlainRun
  Playing : PlainPlay → PlainRun
  Over : PlainRun

-- the stage of a run
abbrev pub plain_run : {C T : Type 0} {of_c : Ghosts C} {of_t : Ghosts T} → Run C T of_c of_t → PlainRun
plain_run (run.Setting limits ledgers) = Setting limits
plain_run (run.Playing play) = Playing (play_of play)
plain_run run.Over = Over

-- ---- limits, and the server

-- a limit is set, as long as there is no server
abbrev pub Sets : Key → ℕ → PlainRun → (said : Option (List ℕ)) → PlainRun → Type 0
Sets key number (Setting limits) said t = (said ≡ None) × (t ≡ Setting (with_limit key number limits))
Sets key number (Playing server) said t = (said ≡ Some (codes "bad line")) × (t ≡ Playing server)
Sets key number Over said t = (said ≡ None) × (t ≡ Over)

-- the first line that isn't about the limits makes the server, unless they allow none
abbrev pub Begins : PlainRun → Option CoreFault → PlainRun → Type 0
Begins (Setting limits) None t = (config_refusal limits ≡ None) × (t ≡ Playing (new_play (new_core limits)))
Begins (Setting limits) (Some fault) t = (config_refusal limits ≢ None) × (fault ≡ BadConfig) × (t ≡ Over)
Begins (Playing server) fault t = (fault ≡ None) × (t ≡ Playing server)
Begins Over fault t = (fault ≡ None) × (t ≡ Over)

-- ---- the text of a script

-- the line feed that ends a line
abbrev pub LF : ℕ
LF = 10

-- the lines of a text; what follows the last LF is a line too, and asks for nothing where it is empty
abbrev pub lines_of : List ℕ → List (List ℕ)
lines_of text = slice_split (λ byte. byte == LF) text

-- an answer is printed as a line, and where there is none nothing is
abbrev pub printed : Option (List ℕ) → List ℕ
printed None = []
printed (Some text) = text ++ LF ∷ []

-- no line ends in it
abbrev pub IsUnended : List ℕ → Type 0
IsUnended text = All (λ byte. (byte == LF) ≡ false) text

-- the known bytes begin with what a read gave, and lose it; an interrupted one gave nothing
abbrev pub Gives : (before : Option (List ℕ)) → Option (Bor (List ℕ)) → (after : Option (List ℕ)) → Type 0
Gives before None after = Consumes before after []
Gives before (Some bytes) after = Consumes before after bytes.now

-- ---- the lines

-- with an app of this policy
module _ (policy : Policy) where
  -- the line is played where there is a server
  abbrev pub PlaysOn : ScriptLine → PlainRun → (said : Option (List ℕ)) → PlainRun → Type 0
  PlaysOn line (Playing server) said t = (after : PlainPlay) × Plays policy line server said after × (t ≡ Playing after)
  PlaysOn line stage said t = (said ≡ None) × (t ≡ stage)

  -- where there is none that is the answer
  abbrev pub PlaysUnless : Option CoreFault → ScriptLine → PlainRun → (said : Option (List ℕ)) → PlainRun → Type 0
  PlaysUnless None line s said t = PlaysOn line s said t
  PlaysUnless (Some fault) line s said t = (said ≡ Some (codes "refused: " ++ fault_name fault)) × (t ≡ s)

  -- what a line does and prints
  abbrev pub Answers : ScriptLine → PlainRun → (said : Option (List ℕ)) → PlainRun → Type 0
  Answers line.Nothing s said t = (said ≡ None) × (t ≡ s)
  Answers (line.Config key number) s said t = Sets key number s said t
  Answers line s said t = (fault : Option CoreFault) × (m : PlainRun) × Begins s fault m × PlaysUnless fault line m said t

  -- what the bytes of a line do and print
  abbrev pub AnswersBytes : (bytes : List ℕ) → PlainRun → (said : Option (List ℕ)) → PlainRun → Type 0
  AnswersBytes bytes s said t = (line : ScriptLine) × IsReadAs bytes line × Answers line s said t

  -- ---- a script

  -- the lines are answered in order, each once, and the output is their answers and nothing else
  unfoldable pub Script : (lines : List (List ℕ)) → (before : PlainRun) → (output : List ℕ) → (after : PlainRun) → Type 0
  Script [] s output t = (output ≡ []) × (t ≡ s)
  Script (line ∷ lines) s output t =
      (said : Option (List ℕ)) × (m : PlainRun) × (rest : List ℕ)
      × AnswersBytes line s said m × (output ≡ printed said ++ rest) × Script lines m rest t

  -- the writer got the answers to the lines of the input, from a stage where these limits stand, and nothing else
  abbrev pub IsAnswered : Limits → (input : Option (List ℕ)) → (before after : Option (List ℕ)) → Type 0
  IsAnswered limits input before after = IfSome input (λ text. (output : List ℕ) × (last : PlainRun) × Script (lines_of text) (Setting limits) output last × Appends before after output)

  -- ---- a script of which a part was read

  -- from a stage with `begun` of a line, these bytes were read and this was written, and `left` of a line is left: whatever
  -- follows, the answers to it complete those that were written
  abbrev pub Continues : PlainRun → (begun read written left : List ℕ) → PlainRun → Type 0
  Continues s begun read written left m = (rest output : List ℕ) (t : PlainRun)
      → Script (lines_of (left ++ rest)) m output t → Script (lines_of (begun ++ (read ++ rest))) s (written ++ output) t

  -- what was written so continues
  abbrev pub WritesOn : (before after : Option (List ℕ)) → PlainRun → (begun read left : List ℕ) → PlainRun → Type 0
  WritesOn before after s begun read left m = (written : List ℕ) × Appends before after written × Continues s begun read written left m

  -- what was written answers one line
  abbrev pub WritesLine : (before after : Option (List ℕ)) → (bytes : List ℕ) → PlainRun → PlainRun → Type 0
  WritesLine before after bytes s t = (said : Option (List ℕ)) × Appends before after (printed said) × AnswersBytes bytes s said t
