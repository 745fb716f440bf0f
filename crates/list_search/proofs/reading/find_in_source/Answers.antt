-- Each exit says where the reading stopped, by the bytes taken and by the last read.
use Rattle.gix_hash.proofs.Std.{◌≡◌, ◌≢◌, ◌<◌, ◌≤◌, ◌++◌, ◌∙◌, Ok, [], map, sym, append-nil, take, drop, length, subst, arith, length-append, length-drop, length-take, map-append, Consumes-nil, Consumes-trans, Consumes}
use Rattle.id_lookup.specs.Words.{id_digits}
use Rattle.list_search.specs.Lists.{IsListRefusal, list_read}
use Rattle.list_search.proofs.ChunkLemmas.{first_of_list, some_after}
use Rattle.list_search.proofs.StopLemmas.{stopped_good, holds_of_all, settled_of_all, settled, too_much, split_read, not_failed, refused_exit, end_exit}
use Rattle.list_search.proofs.reading.find_in_source.Goals as goal

pub chunks-init : goal.chunks-init
chunks-init g c = record {
  taken = record {
    text = [];
    gives = Consumes-nil _;
    limit = omega arith;
    searched = record { earlier = []; dropped = sym c.new-reader.ensures.none; found = c.new-finder.ensures.known _ _; taken = c.new-reader.ensures.taken };
  };
  empty = c.new-reader.ensures.no_ids;
  count = c.new-finder.ensures.none ∙ sym c.new-reader.ensures.none;
  short = omega (arith, c.new-reader.ensures.none, c.new-reader.ensures.empty);
  stands = c.requires.input;
}

pub chunks-preserved : goal.chunks-preserved
chunks-preserved g c =
    let t = c.chunks.invariant.taken in
    let chunk = take c.in-Ok.count c.read.new.buf in
    let all : length chunk ≡ c.in-Ok.count = omega (arith, c.in-Ok.ensures.bound, length-take c.in-Ok.count c.read.new.buf) in
    let said = c.in_ok-search_chunk.ensures.ok in
    record {
      taken = record {
        text = t.text ++ chunk;
        gives = Consumes-trans _ _ _ t.text chunk t.gives c.in-Ok.ensures.bytes.0;
        limit = omega (arith, t.limit, all, length-append t.text chunk);
        searched = said.onward t.text t.searched;
      };
      empty = said.empty;
      count = said.count;
      short = omega (arith, said.short, c.chunks.invariant.short, all);
      stands = not_failed _ _ c.chunks.invariant.stands c.in-Ok.ensures.failed;
    }

pub returns-in_default-clause-stopped : goal.returns-in_default-clause-stopped
returns-in_default-clause-stopped g c = stopped_good c.chunks.invariant.taken _ c.in_default.ensures.bytes

pub returns-then-count-eq0 : goal.returns-then-count-eq0
returns-then-count-eq0 g c =
    let t = c.chunks.invariant.taken in
    let s = t.searched in
    let some : 0 < length c.read.new.buf = omega (arith, c.read.auto.buf) in
    let said = end_exit c.into_found.result (λ v. map id_digits v.items) _ _ _ _ _ _ _
    (c.into_found.ensures _ (rw (c.deref.ensures.value, ← map-append id_digits s.earlier) at (c.in_ok-take.ensures.known (map id_digits s.earlier) s.found)))
    (not_failed _ _ c.chunks.invariant.stands c.in-Ok.ensures.failed)
    (holds_of_all t _ (λ text. list_read text ≡ Ok (map id_digits (s.earlier ++ c.in_ok-ids.ids.items))) c.in-Ok.count c.read.new.buf c.if-count-eq0.true some c.in-Ok.ensures.bytes
    (c.in_ok-ids.ensures.ok s.earlier t.text s.taken)) in
    record { found = said.0; not_failed = said.1; stopped = said.2; input = said.3 }

pub returns-in_err-ids : goal.returns-in_err-ids
returns-in_err-ids g c =
    let t = c.chunks.invariant.taken in
    let s = t.searched in
    let some : 0 < length c.read.new.buf = omega (arith, c.read.auto.buf) in
    let said = refused_exit c.from_residual.result (λ v. map id_digits v.items) _ _ _ _ _ _ _ c.from_residual.ensures.1 (not_failed _ _ c.chunks.invariant.stands c.in-Ok.ensures.failed)
    (settled_of_all (holds_of_all t _ (λ text. IsListRefusal text c.in_err-ids.field-0.0) c.in-Ok.count c.read.new.buf c.if-count-eq0.true some c.in-Ok.ensures.bytes
    (c.in_err-ids.ensures.err s.earlier t.text s.dropped s.taken))) in
    record { found = said.0; not_failed = said.1; stopped = said.2; input = said.3 }

pub returns-in_err-take : goal.returns-in_err-take
returns-in_err-take g c =
    let m = c.in_err-take.ensures.memory in
    let t = c.chunks.invariant.taken in
    let s = t.searched in
    let some : 0 < length c.read.new.buf = omega (arith, c.read.auto.buf) in
    let part : c.in_ok-ids.ids.items ≢ [] = subst (λ ids. ids ≢ []) c.deref.ensures.value m.1 in
    let said = refused_exit c.from_residual-in_err-take.result (λ v. map id_digits v.items) _ _ _ _ _ _ _ c.from_residual-in_err-take.ensures.1 (not_failed _ _ c.chunks.invariant.stands c.in-Ok.ensures.failed)
    (settled_of_all (holds_of_all t _ (λ text. IsListRefusal text c.in_err-take.field-0.0) c.in-Ok.count c.read.new.buf c.if-count-eq0.true some c.in-Ok.ensures.bytes
    (subst (IsListRefusal t.text) (sym m.0) (first_of_list t.text _ (c.in_ok-ids.ensures.ok s.earlier t.text s.taken) (some_after s.earlier _ part))))) in
    record { found = said.0; not_failed = said.1; stopped = said.2; input = said.3 }

pub returns-in_err-take_chunk : goal.returns-in_err-take_chunk
returns-in_err-take_chunk g c =
    let t = c.chunks.invariant.taken in
    let room = c.chunks.room in
    let buf = c.read.new.buf in
    let fits : length (take room buf) ≤ room = omega (arith, length-take room buf) in
    let said = refused_exit c.from_residual-in_err-take_chunk.result (λ v. map id_digits v.items) _ _ _ _ _ _ _ c.from_residual-in_err-take_chunk.ensures.1 (not_failed _ _ c.chunks.invariant.stands c.in-Ok.ensures.failed)
    (settled t _ (take room buf) (drop room (take c.in-Ok.count buf)) (split_read _ _ room c.in-Ok.count buf (omega arith) c.in-Ok.ensures.bytes.0) fits
    (λ text. IsListRefusal text c.in_err-take_chunk.field-0.0) (λ more. c.in_err-take_chunk.ensures.err t.searched.earlier t.text more t.searched.dropped t.searched.taken)) in
    record { found = said.0; not_failed = said.1; stopped = said.2; input = said.3 }

pub returns-then-count-room-clause-stopped : goal.returns-then-count-room-clause-stopped
returns-then-count-room-clause-stopped g c =
    let t = c.chunks.invariant.taken in
    let room = c.chunks.room in
    let count = c.in-Ok.count in
    let buf = c.read.new.buf in
    let full : length (take room buf) ≡ room = omega (arith, c.in-Ok.ensures.bound, length-take room buf) in
    let some : 0 < length (drop room (take count buf)) = omega (arith, c.in-Ok.ensures.bound, length-drop room (take count buf), length-take count buf) in
    too_much t _ (take room buf) (drop room (take count buf)) (split_read _ _ room count buf (omega arith) c.in-Ok.ensures.bytes.0) (omega arith)
    _ _ _ full some (c.in_ok-take_chunk.ensures.ok.taken t.searched.earlier t.text t.searched.taken)

pub returns-in_err-search_chunk : goal.returns-in_err-search_chunk
returns-in_err-search_chunk g c =
    let t = c.chunks.invariant.taken in
    let count = c.in-Ok.count in
    let buf = c.read.new.buf in
    let fits : length (take count buf) ≤ c.chunks.room = omega (arith, length-take count buf) in
    let said = refused_exit c.from_residual-in_err-search_chunk.result (λ v. map id_digits v.items) _ _ _ _ _ _ _ c.from_residual-in_err-search_chunk.ensures.1 (not_failed _ _ c.chunks.invariant.stands c.in-Ok.ensures.failed)
    (settled t _ (take count buf) [] (subst (Consumes _ _) (sym (append-nil (take count buf))) c.in-Ok.ensures.bytes.0) fits
    (λ text. IsListRefusal text c.in_err-search_chunk.field-0.0) (λ more. c.in_err-search_chunk.ensures.err t.text more t.searched)) in
    record { found = said.0; not_failed = said.1; stopped = said.2; input = said.3 }
