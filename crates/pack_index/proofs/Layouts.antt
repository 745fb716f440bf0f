-- The tables in some bytes, by their layout and the fan-out table that was read.
use Rattle.gix_hash.proofs.Std.{◌≡◌, ℕ, zero, suc, ◌*◌, ◌<◌, List, length, refl, sym, ap, ◌∙◌, arith}
use Rattle.id_lookup.specs.Words.{Kind, byte_len_of}
use Rattle.pack_index.specs.Format.{HasTables, num_objects, tables_end}
use Rattle.pack_index.specs.Lazy.{HasLayout, bucket_start, fan_out, first_id, ids_of, tables_of}
use Rattle.pack_index.specs.declared.layout.IdTable.{IdTable}
use Rattle.pack_index.specs.declared.layout.Layout.{Layout}
use Rattle.pack_index.specs.declared.layout.Layout.TheVariants.{Index, Multi}
use Rattle.pack_index.proofs.Buckets.{length-ids}
use Rattle.pack_index.proofs.Heads.{end_in_head, head_count}
use Rattle.streams.specs.Streams.{IsReadAt}

-- the ids are as many as the last entry says
ids_are : (kind : Kind) (layout : Layout) (head : List ℕ) (end : ℕ) (bytes : List ℕ) → HasLayout kind layout head end bytes
    → ids_of (record { kind = kind; start = first_id layout; count = num_objects head }) bytes ≡ (tables_of kind layout bytes).ids
ids_are kind Index head end bytes has = ap (λ (n : ℕ). ids_of (record { kind = kind; start = 1032; count = n }) bytes) (has.counts 255 (omega arith))
ids_are kind (Multi counts ids) head end bytes has = ap (λ (n : ℕ). ids_of (record { kind = kind; start = ids; count = n }) bytes) (has.counts 255 (omega arith))

module _ (kind : Kind) (layout : Layout) (head : List ℕ) (end : ℕ) (bytes : List ℕ) (has : HasLayout kind layout head end bytes) where
  pub start_is : (byte : ℕ) → byte < 256 → bucket_start (fan_out head) byte ≡ bucket_start (tables_of kind layout bytes).up_to byte
  start_is zero low = refl
  start_is (suc b) low = has.counts b (omega arith)

  pub count_is : length (tables_of kind layout bytes).ids ≡ num_objects head
  count_is = sym (ap length (ids_are kind layout head end bytes has)) ∙ length-ids kind bytes (first_id layout) (num_objects head) has.inside

  -- in a pack index it is the number of its objects
  pub head_count_is : layout ≡ Index → num_objects head ≡ num_objects bytes
  head_count_is is = has.counts 255 (omega arith) ∙ ap (λ (l : Layout). (tables_of kind l bytes).up_to 255) is

  -- a table of them that was made of parts
  pub table_is : (table : IdTable) → table.kind ≡ kind → table.start ≡ first_id layout → table.count ≡ num_objects head
      → ids_of table bytes ≡ (tables_of kind layout bytes).ids
  table_is table same start count = (λ i. ids_of (record { kind = same i; start = start i; count = count i }) bytes) ∙ ids_are kind layout head end bytes has

-- a pack index has its layout
pub index_layout : (kind : Kind) (bytes head : List ℕ) → IsReadAt bytes 0 head → length head ≡ 1032 → HasTables kind bytes → (end : ℕ) → end ≡ tables_end kind bytes
    → HasLayout kind Index head end bytes
index_layout kind bytes head front long tables end ends = record {
  counts = end_in_head bytes head front long;
  inside = omega (arith, tables.fits, ap (λ n. byte_len_of kind * n) (head_count bytes head front long));
  fills = λ is. tables;
  ends = λ is. ends;
}
