use Rattle.gix_hash.proofs.Std.{◌∙◌, ap, map, string_bytes}
use Rattle.directory_store.specs.Stores.{index_path, only_of}
use Rattle.directory_store.proofs.Wholes.{both_nil, has_all, moved}
use Rattle.directory_store.proofs.store.DirectoryStoreReopen.reopen.Goals as goal

pub returns-clause-reopened : goal.returns-clause-reopened
returns-clause-reopened g c =
    let new = c.open_again.new.self in
    let opened = c.open_again.ensures in
    record {
      kind = opened.kind;
      listed = ap only_of opened.listed;
      before = λ first seen was. (opened.place ∙ was.0, opened.answers ∙ was.1, opened.purpose ∙ was.2, opened.listed ∙ was.3, was.4, λ none. was.5 (opened.skipped none));
      has = λ first was. (
        opened.place ∙ was.0,
        opened.answers ∙ was.1,
        opened.purpose ∙ was.2,
        opened.listed ∙ was.3,
        opened.kind ∙ was.4,
        λ none at known.
            moved at new.purpose first.purpose new.loose.which first.loose.which new.directory first.directory _ (opened.purpose ∙ was.2) (opened.listed ∙ was.3) (opened.place ∙ was.0)
            (has_all (g.R.Directories.answers new.rt) new.purpose new.directory (map string_bytes new.directories.paths.items) new.skipped.items (map index_path new.packs.items) new.indexes.items
            new.loose new.loose_before.items new.are_opened new.are_loose (both_nil new.skipped_before.items new.skipped.items none).1 at (opened.answers ∙ was.1 ∙ known)),
      );
    }
