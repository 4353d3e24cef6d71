-- What a cursor over a table yields in one step, as one `next` of the source's iterators, kept to its table (document 02, §2) and with its
-- number (§10). Assumes nothing.
use Rattle.std.specs.Prelude.{refl, cond, List, ℕ, ◌+◌, ◌-◌, ◌*◌, ◌/◌, leb, ltb, length}
use Rattle.std.specs.Int.{w32}
use Rattle.std.proofs.Common.{to_z}
use Rattle.util.specs.Read.{le}
use Rattle.records.specs.declared.answer.Place.{Place}
use Rattle.records.specs.Answer.{Answer, value, refused, map, bind}
use Rattle.records.specs.Counted.{imp_file_size, text_of}
use Rattle.records.specs.Layout.{size_of, offset_of, guid_entry, imp_info, imp_file}
use Rattle.records.specs.Record.{limit}
use Rattle.typelib.specs.declared.TypeLib.{TypeLib}
use Rattle.typelib.specs.Header.{type_count}
use Rattle.cursors.specs.Cursors.{fixed_at}
use Rattle.cursors.specs.Numbers.{Next, item, stop, next_by, Step, beside, Counting, with_number}
use Rattle.table_cursors.specs.declared.iterators.GuidCursor.{GuidCursor}
use Rattle.table_cursors.specs.declared.iterators.ImportCursor.{ImportCursor}
use Rattle.table_cursors.specs.declared.iterators.ImpFileCursor.{ImpFileCursor}
use Rattle.table_cursors.specs.declared.iterators.NameCursor.{NameCursor}
use Rattle.records.specs.declared.name.NameEntry.{NameEntry}
use Rattle.table_cursors.specs.declared.iterators.TypeInfoCursor.{TypeInfoCursor}
use Rattle.typelib.specs.Tables.{lent, segment_of, table_of}
use Rattle.typelib.specs.Names.{name_intro}
use Rattle.typelib.specs.TypeInfos.{typeinfo_of}

-- ---- where a cursor stands

-- before a record of a table that ends at `end`
pub record TableAt : Type 0 where
  pub pos : ℕ
  pub end : ℕ

-- the same in the name table, whose entries are counted from `start`
pub record NamesAt : Type 0 where
  pub pos : ℕ
  pub end : ℕ
  pub start : ℕ

-- the cursors are that, and how many records they have yielded
abbrev pub over_guids : Counting GuidCursor TableAt
over_guids =
    record {
      stands = λ c. record { pos = c.pos; end = c.end };
      count = λ c. c.yielded;
      cursor = λ d n. record { pos = d.pos; end = d.end; yielded = n };
      whole = λ c. refl;
      stood = λ d n. refl;
      counted = λ d n. refl;
    }

abbrev pub over_imports : Counting ImportCursor TableAt
over_imports =
    record {
      stands = λ c. record { pos = c.pos; end = c.end };
      count = λ c. c.yielded;
      cursor = λ d n. record { pos = d.pos; end = d.end; yielded = n };
      whole = λ c. refl;
      stood = λ d n. refl;
      counted = λ d n. refl;
    }

abbrev pub over_imp_files : Counting ImpFileCursor TableAt
over_imp_files =
    record {
      stands = λ c. record { pos = c.pos; end = c.end };
      count = λ c. c.yielded;
      cursor = λ d n. record { pos = d.pos; end = d.end; yielded = n };
      whole = λ c. refl;
      stood = λ d n. refl;
      counted = λ d n. refl;
    }

abbrev pub over_names : Counting NameCursor NamesAt
over_names =
    record {
      stands = λ c. record { pos = c.pos; end = c.end; start = c.start };
      count = λ c. c.yielded;
      cursor = λ d n. record { pos = d.pos; end = d.end; start = d.start; yielded = n };
      whole = λ c. refl;
      stood = λ d n. refl;
      counted = λ d n. refl;
    }

-- ---- records of one size

abbrev pub fixed_next_from : ℕ → TableAt → Answer Place → Next Place TableAt
fixed_next_from size d = next_by d (λ p. p) (λ p. record { pos = d.pos + size; end = d.end })

abbrev pub fixed_next : ℕ → List ℕ → TableAt → Next Place TableAt
fixed_next size s d = fixed_next_from size d (lent s (fixed_at s d.pos d.end size))

abbrev pub guid_step : List ℕ → GuidCursor → Step Place GuidCursor
guid_step s = with_number over_guids (fixed_next (size_of guid_entry) s)

abbrev pub import_step : List ℕ → ImportCursor → Step Place ImportCursor
import_step s = with_number over_imports (fixed_next (size_of imp_info) s)

-- ---- import files, which carry their length

-- the entry at pos: its fixed part and the whole end by the table's end and by the file's
unfoldable pub imp_file_entry : List ℕ → ℕ → ℕ → Answer Place
imp_file_entry s pos end =
    bind (fixed_at s pos end (size_of imp_file)) (λ _.
    fixed_at s pos end (imp_file_size (le 2 s (pos + offset_of imp_file "size"))))

abbrev pub imp_file_next_from : TableAt → Answer Place → Next Place TableAt
imp_file_next_from d = next_by d (λ p. p) (λ p. record { pos = d.pos + p.len; end = d.end })

abbrev pub imp_file_next : List ℕ → TableAt → Next Place TableAt
imp_file_next s d = imp_file_next_from d (lent s (imp_file_entry s d.pos d.end))

abbrev pub imp_file_step : List ℕ → ImpFileCursor → Step Place ImpFileCursor
imp_file_step s = with_number over_imp_files (imp_file_next s)

-- ---- tables from their start to their end; a missing one is empty

abbrev pub guids_of : List ℕ → TypeLib → Answer GuidCursor
guids_of s lib = lent s (value (let table = table_of (segment_of lib 5) in record { pos = table.at; end = table.at + table.len; yielded = 0 }))

abbrev pub imports_of : List ℕ → TypeLib → Answer ImportCursor
imports_of s lib = lent s (value (let table = table_of (segment_of lib 1) in record { pos = table.at; end = table.at + table.len; yielded = 0 }))

abbrev pub imp_files_of : List ℕ → TypeLib → Answer ImpFileCursor
imp_files_of s lib = lent s (value (let table = table_of (segment_of lib 2) in record { pos = table.at; end = table.at + table.len; yielded = 0 }))

-- ---- typeinfos

-- the cursor at an index
abbrev pub typeinfos_from : ℕ → TypeInfoCursor
typeinfos_from k = record { index = record { 0 = k } }

abbrev pub typeinfos_of : List ℕ → Answer TypeInfoCursor
typeinfos_of s = lent s (value (typeinfos_from 0))

-- 6, 7 or 8 for an entry, and on to the next; 9 and the same cursor behind the last
abbrev pub typeinfo_next_from : TypeInfoCursor → Answer Place → Next Place TypeInfoCursor
typeinfo_next_from c (value p) = item p (typeinfos_from (c.index.0 + 1))
typeinfo_next_from c (refused n) = stop n (typeinfos_from (c.index.0 + 1))

unfoldable pub typeinfo_next : List ℕ → TypeLib → TypeInfoCursor → Next Place TypeInfoCursor
typeinfo_next s lib c =
    cond (ltb limit (length s)) (stop 1 c)
    (cond (leb (type_count lib) c.index.0) (stop 9 c) (typeinfo_next_from c (typeinfo_of s lib c.index.0)))

-- its number is its index, which the step moves itself: refused entries are counted
abbrev pub typeinfo_step : List ℕ → TypeLib → TypeInfoCursor → Step Place TypeInfoCursor
typeinfo_step s lib c = beside (λ d _. d) c.index.0 (typeinfo_next s lib c)

-- ---- names

-- where the text of n bytes behind the intro at pos lies: the entry, its text included, ends by the table's end and by the file's
abbrev pub entry_text : List ℕ → ℕ → ℕ → ℕ → Answer Place
entry_text s pos end n = map (λ _. record { at = pos + size_of name_intro; len = n }) (fixed_at s pos end (size_of name_intro + n))

-- what stands before a name, with the place of its text
abbrev pub name_entry_from : List ℕ → NamesAt → Place → NameEntry
name_entry_from s d text =
    record {
      offset = d.pos - d.start;
      text = text;
      hreftype = to_z w32 (le 4 s d.pos);
      next_hash = to_z w32 (le 4 s (d.pos + offset_of name_intro "next_hash"));
      flags = le 1 s (d.pos + offset_of name_intro "flags");
      hashcode = le 2 s (d.pos + offset_of name_intro "hashcode");
    }

-- The entry at the cursor, whose text is UTF-8. A cursor before its table's start has no entry.
unfoldable pub name_entry : List ℕ → NamesAt → Answer NameEntry
name_entry s d =
    cond (ltb d.pos d.start) (refused 9)
    (bind (fixed_at s d.pos d.end (size_of name_intro)) (λ _.
    map (name_entry_from s d) (text_of s (entry_text s d.pos d.end (le 1 s (d.pos + offset_of name_intro "namelen"))))))

-- the next entry starts behind the text, filled up to a multiple of four
abbrev pub name_next_from : NamesAt → Answer NameEntry → Next NameEntry NamesAt
name_next_from d =
    next_by d (λ e. e) (λ e.
    record { pos = e.text.at + (e.text.len + 3) / 4 * 4; end = d.end; start = d.start })

abbrev pub name_next : List ℕ → NamesAt → Next NameEntry NamesAt
name_next s d = name_next_from d (lent s (name_entry s d))

abbrev pub name_step : List ℕ → NameCursor → Step NameEntry NameCursor
name_step s = with_number over_names (name_next s)

-- all of the name table, whose entries are counted from its start
abbrev pub names_in : TypeLib → NameCursor
names_in lib =
    let table = table_of (segment_of lib 7) in
    record { pos = table.at; end = table.at + table.len; start = table.at; yielded = 0 }

abbrev pub names_of : List ℕ → TypeLib → Answer NameCursor
names_of s lib = lent s (value (names_in lib))
