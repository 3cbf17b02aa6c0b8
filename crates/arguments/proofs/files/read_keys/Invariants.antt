use Rattle.arguments.specs.Keys.{HasKeys}
use Rattle.arguments.proofs.files.read_keys.Given as goal

abbrev pub invariant-loop-file : goal.invariant-loop-file
invariant-loop-file g l = HasKeys l.file-index l.keys.items
