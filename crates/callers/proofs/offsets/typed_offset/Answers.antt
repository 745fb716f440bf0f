use Rattle.std.proofs.Common.{◌≡◌, ◌+◌, true≢false, refl, sym, ap, ◌∙◌, subst}
use Rattle.gix_hash.specs.Words.{KindDigits}
use Rattle.id_lookup.specs.Words.{IsAnswer, IsRun}
use Rattle.pack_index.specs.Format.{IndexFile, ids_in}
use Rattle.callers.proofs.OnlyMatches.{not_one}
use Rattle.callers.proofs.offsets.typed_offset.Goals as goal

pub lookup_prefix-requires : goal.lookup_prefix-requires
lookup_prefix-requires c =
    c.in-Ok.ensures.kind ∙ sym (ap (λ (file : IndexFile). file.kind) c.in-Ok-try_new.ensures.ok)

pub returns-in-One-clause-none : goal.returns-in-One-clause-none
returns-in-One-clause-none c =
    let prefix = c.in-Ok.prefix in
    let at = c.in-One.at in
    let run = subst (λ (file : IndexFile). IsRun prefix (ids_in file.kind file.bytes) (record { start = at; end = at + 1 })) c.in-Ok-try_new.ensures.ok c.in-One.ensures in (
      λ no. absurd (true≢false no),
      λ none. absurd (none at (record { prefix = prefix; reads = sym c.in-Ok.ensures.read; index = c.in-Ok-try_new.ensures.accepted.0 refl; run = run })),
    )

pub returns-in-None : goal.returns-in-None
returns-in-None c =
    let prefix = c.in-Ok.prefix in
    let names = ids_in c.args.kind c.args.bytes.now in
    let answer = subst (λ (file : IndexFile). IsAnswer prefix (ids_in file.kind file.bytes) c.lookup_prefix.result) c.in-Ok-try_new.ensures.ok c.lookup_prefix.ensures in
    record {
      offset = tt;
      none = (
        λ no at only.
            let same : only.prefix ≡ prefix = cc (only.reads, c.in-Ok.ensures.read) in
            not_one prefix names c.lookup_prefix.result answer c.in-None.is at (subst (λ (p : KindDigits). IsRun p names (record { start = at; end = at + 1 })) same only.run),
        λ none. refl,
      );
    }
