-- What contracts see of sources and sinks over slices, and over readers and writers of the standard library.
use Rattle.std.specs.Prelude.{◌-◌, ℕ, Bool, List, Option, Some, None, Result, Ok, Err, is_some, take, length}
use Rattle.std.specs.declared.io.Error.{Error}
use Rattle.streams.specs.declared.from_slice.FromSlice.{FromSlice}
use Rattle.streams.specs.declared.into_slice.IntoSlice.{IntoSlice}
use Rattle.streams.specs.declared.plain.Plain.{Plain}
use Rattle.streams.specs.declared.retrying.Retrying.{Retrying}

-- the remaining bytes of a source over a slice
abbrev pub slice_rest : FromSlice → List ℕ
slice_rest source = source.rest.now

-- the bytes written so far to a sink over a slice
abbrev pub slice_taken : IntoSlice → List ℕ
slice_taken sink = take sink.len sink.buf.now

-- whether it failed
abbrev pub slice_failed : IntoSlice → Bool
slice_failed sink = sink.failed

-- how many more bytes it can take
abbrev pub room_in : IntoSlice → ℕ
room_in sink = length sink.buf.now - sink.len

-- the reader or writer below a `Plain`
abbrev pub plain_inner : {T : Type 0} → Plain T → T
plain_inner sink = sink.inner

-- why its first call that failed did, if one failed
abbrev pub plain_error : {T : Type 0} → Plain T → Option Error
plain_error device = device.error

-- whether it failed
abbrev pub plain_failed : {T : Type 0} → Plain T → Bool
plain_failed device = is_some (plain_error device)

-- the reader or writer whose calls are tried again
abbrev pub retrying_inner : {T : Type 0} → Retrying T → T
retrying_inner device = device.inner

-- the first error after a call, by the one before it and what the call returned
abbrev pub error_after : {T : Type 0} → Option Error → Result T Error → Option Error
error_after (Some error) returned = Some error
error_after None (Ok value) = None
error_after None (Err error) = Some error
