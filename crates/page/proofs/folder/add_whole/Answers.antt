use Rattle.std.proofs.Common.{rules, ◌≡◌, ◌++◌, ◌∷◌, []}
use Rattle.page.specs.Pages.{file_of}
use Rattle.page.proofs.FolderLemmas.{of_all}
use Rattle.page.proofs.folder.add_whole.Goals as goal

pub returns-clause-whole : goal.returns-clause-whole
returns-clause-whole g c =
    of_all (λ all. c.add.new.self ≡ c.args.page.now ++ file_of c.args.name all ∷ []) (g.R.Read.remaining c.args.reader) c.take-reader.result.limit c.read_to_end.new.buf.items (search rules) (search rules) (search rules)
