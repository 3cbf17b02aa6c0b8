-- What options of which a server is made have in common, and how others are refused.
use Rattle.std.specs.Prelude.{◌≡◌, ◌⊎◌, None, is_some, map, option_map, string_bytes, true}
use Rattle.clap.specs.declared.error.kind.ErrorKind.{ErrorKind}
use Rattle.clap.specs.declared.error.kind.ErrorKind.TheVariants.{InvalidValue, OutOfMemory}
use Rattle.settings.specs.Wrong.{wrong_setting}
use Rattle.arguments.specs.Wrong.{are_origins, backend_refusal, expiry_refusal, is_right_path}
use Rattle.std.specs.Box.{box_value}
use Rattle.arguments.specs.declared.options.Options.{Options}
use Rattle.arguments.specs.declared.task.Task.{Task}
use Rattle.arguments.specs.declared.task.Task.TheVariants as task

-- sockets are ended by tokens only where some are verified; backends have a token of their own, and
-- no demonstration app beside them
pub record FilesAgree (o : Options) : Type 0 where
  pub expiry : expiry_refusal o.end_expired (is_some o.signed) ≡ None
  pub backend : backend_refusal o.backend o.token o.tell_left ≡ None

-- of these a server is made: no setting is wrong, a browser may name the origins, a
-- request may have the path of the counts, and the files agree
pub record MakesServer (o : Options) : Type 0 where
  pub settings : wrong_setting o.settings ≡ None
  pub origins : are_origins (map string_bytes o.settings.origins.items) ≡ true
  pub metrics : is_right_path (option_map string_bytes o.settings.metrics) ≡ true
  pub files : FilesAgree o

-- the options are wrong, or memory ran out
abbrev pub IsToldOf : ErrorKind → Type 0
IsToldOf kind = (kind ≡ InvalidValue) ⊎ (kind ≡ OutOfMemory)

-- the task is a script, or to serve with such options
abbrev pub IsRightTask : Task → Type 0
IsRightTask task.Script = Unit {0}
IsRightTask (task.Serve options) = MakesServer (box_value options)
