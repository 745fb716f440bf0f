-- What follows of a hashing writer from many calls of it.
use Rattle.id_digits.proofs.Std.{◌∙◌, ℕ, List, [], ◌∷◌, ◌++◌, Option, refl, subst, append_assoc, append-nil, Appends-nil, Appends-trans}
use Rattle.std.proofs.lemmas.List.Concat.{flat_map-cons}
use Rattle.gix_hash.specs.Hashing.{Reaches, WriterCall, WriterStep, WritesAndFeeds, accepted, accepted_by}
use Rattle.gix_hash.specs.declared.io.write.Write.{Write}

module _ {T : Type 0} (contents : T → Option (List ℕ)) where
  WritesAndFeeds-nil : (writer : Write T) → WritesAndFeeds contents writer [] writer
  WritesAndFeeds-nil writer = record {
    kind = refl;
    fed = λ message stood. rw append-nil stood;
    gained = Appends-nil (contents writer.inner);
  }

  WritesAndFeeds-append : (first second third : Write T) (bytes more : List ℕ)
      → WritesAndFeeds contents first bytes second → WritesAndFeeds contents second more third → WritesAndFeeds contents first (bytes ++ more) third
  WritesAndFeeds-append first second third bytes more took took_more = record {
    kind = took_more.kind ∙ took.kind;
    fed = λ message stood. rw (← append_assoc) (took_more.fed _ (took.fed message stood));
    gained = Appends-trans _ _ _ bytes more took.gained took_more.gained;
  }

  -- the calls together accepted what each of them did
  pub WritesAndFeeds-accepted : (before after : Write T) (calls : List WriterCall)
      → Reaches (WriterStep contents) before calls after → WritesAndFeeds contents before (accepted calls) after
  unfolding Reaches
  WritesAndFeeds-accepted before after [] reached = subst (λ writer. WritesAndFeeds contents before [] writer) reached (WritesAndFeeds-nil before)
  WritesAndFeeds-accepted before after (call ∷ calls) reached =
      rw (flat_map-cons accepted_by call calls)
      (WritesAndFeeds-append before reached.0 after _ _ reached.1 (WritesAndFeeds-accepted reached.0 after calls reached.2))
