-- What contracts say of why a command stops, or skips a part of a store.
use Rattle.std.specs.Prelude.{List, Option, Some, codes, ℕ}
use Rattle.object_store.specs.declared.error.Error.{Error as LookUpError}
use Rattle.object_store.specs.declared.error.Error.TheVariants as look_ups
use Rattle.pack_index.specs.declared.error.Error.TheVariants.{Version1}
use Rattle.pack_index.specs.declared.lazy_error.LazyError.TheVariants.{Head}
use Rattle.directory_store.specs.declared.error.Error.{Error as StoreError}
use Rattle.directory_store.specs.declared.error.Error.TheVariants.{Index}
use Rattle.store_questions.specs.declared.failure.Failure.{Failure}
use Rattle.store_questions.specs.declared.failure.Failure.TheVariants.{LookUp, Store}

-- why a look-up in a store fails; or, if a pack index was gone, why the store could not be opened again then, if that failed
abbrev pub failure_of : LookUpError → Option StoreError → Failure
failure_of (look_ups.Gone path) (Some failed) = Store failed
failure_of error _ = LookUp error

-- what is printed after the error of a part that is skipped; for a pack index of version 1 this also names a cure
abbrev pub skipped_mark : StoreError → List ℕ
skipped_mark (Index (look_ups.Index path (Head Version1))) = codes " (git index-pack PACK replaces it), skipped"
skipped_mark _ = codes ", skipped"
