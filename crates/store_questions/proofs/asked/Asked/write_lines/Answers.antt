use Rattle.gix_hash.proofs.Std.{All, List, refl, subst, sym, ℕ, ◌≡◌, ◌∙◌}
use Rattle.gix_hash.specs.Words.{KindDigits, first_byte_of}
use Rattle.directory_store.proofs.Wholes.{both_nil, moved}
use Rattle.directory_store.specs.Stores.{IsListedBy}
use Rattle.directory_store.specs.declared.loose.LooseIds.{LooseIds}
use Rattle.packtool_commands.specs.Stores.{prefixes_of}
use Rattle.streams.specs.Streams.{lines_of}
use Rattle.store_questions.proofs.StatusLemmas.{kept-found, status-of}
use Rattle.store_questions.proofs.asked.Asked.write_lines.Goals as goal

-- the loose objects that prefixes may begin are listed
abbrev AreOf : LooseIds → List KindDigits → Type 0
AreOf loose prefixes = All (λ (prefix : KindDigits). IsListedBy loose (first_byte_of prefix.digits)) prefixes

are_of : (listed asked : LooseIds) (prefixes read : List KindDigits) → listed ≡ asked → read ≡ prefixes → AreOf asked read → AreOf listed prefixes
are_of listed asked prefixes read is same all = subst (AreOf listed) same (subst (λ loose. AreOf loose read) (sym is) all)

pub ask_for_lines-ran-requires-clause-listed : goal.ask_for_lines-ran-requires-clause-listed
ask_for_lines-ran-requires-clause-listed g c = are_of _ _ _ _ c.in_ok-store.ensures.listed c.prefixes.ensures.items c.loose_of-loose.ensures

pub keep-requires-clause-of : goal.keep-requires-clause-of
keep-requires-clause-of g c =
    let first = c.in_ok-store.store in
    let of = c.in_ok-store.ensures.of in
    let had = c.ask_for_lines-ran.ensures.reopened.has first (refl, refl, refl, refl, refl, λ none. c.in_ok-store.ensures.objects (both_nil first.skipped_before.items first.skipped.items none).1) in
    (c.ask_for_lines-ran.ensures.reopened.kind ∙ of.0, had.0 ∙ of.1, had.2 ∙ of.2 ∙ c.purpose_of.ensures, had.1 ∙ of.3)

pub returns-clause-answered : goal.returns-clause-answered
returns-clause-answered g c =
    let first = c.in_ok-store.store in
    let query = c.args.self.now.query in
    let ran = c.ask_for_lines-ran in
    let store = ran.new.store in
    let of = c.in_ok-store.ensures.of in
    let had = ran.ensures.reopened.has first (refl, refl, refl, refl, refl, λ none. c.in_ok-store.ensures.objects (both_nil first.skipped_before.items first.skipped.items none).1) in
    kept-found _ _ _ _ ran.result c.in_ok-kept.kept.0 c.in_ok-kept.ensures.ran c.in_ok-kept.ensures.kept ran.ensures.answered
    (λ has. record {
      ended = status-of _ c.in_ok-kept.kept.1 c.is_none.result c.in_ok-kept.kept.0 _ c.in_ok-kept.ensures.whole c.is_none.ensures c.status_if.ensures;
      answered = rw (← c.in_ok-lines.ensures.text) has;
      kind = ran.ensures.reopened.kind ∙ of.0;
      listed = subst (λ kind. AreOf store.loose.which (prefixes_of kind (lines_of c.args.lines.now))) (c.in_ok-lines.ensures.kind ∙ sym (ran.ensures.reopened.kind ∙ of.0))
          (subst (λ (text : List ℕ). AreOf store.loose.which (prefixes_of c.in_ok-lines.lines.kind (lines_of text))) c.in_ok-lines.ensures.text
          (subst (AreOf store.loose.which) c.in_ok-lines.lines.are_read
          (are_of _ _ _ _ (had.3 ∙ c.in_ok-store.ensures.listed) c.prefixes.ensures.items c.loose_of-loose.ensures)));
      objects = λ none at known. moved at store.purpose _ store.loose.which store.loose.which store.directory query.directory.now _ (had.2 ∙ of.2 ∙ c.purpose_of.ensures) refl (had.0 ∙ of.1)
          (c.in_ok-kept.ensures.objects none at ((had.1 ∙ of.3) ∙ known));
    })

pub store_now-requires : goal.store_now-requires
store_now-requires g c = λ store is.
    let of = c.args.self.now.kept_is_of store (sym c.take.ensures.value ∙ is) in
    (of.0, of.1, of.2 ∙ sym c.purpose_of.ensures, of.3)
