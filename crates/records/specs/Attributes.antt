-- The optional fields behind the fixed part of a variable or function record, "controlled by record length" (Wine's
-- typelib.h): as many words as the record's own size, the low 16 bits of Info, has room for. Assumes nothing.
use Rattle.std.specs.Prelude.{Bool, false, cond, List, ℕ, ◌+◌, ◌-◌, ◌*◌, ◌/◌, leb, ltb, ℤ, pos, negsuc}
use Prim.Native.String.{String}
use Rattle.records.specs.Answer.{Answer, refused, map, bind}
use Rattle.records.specs.Layout.{size_of, offset_of, parameter_info, var_record, var_attributes, func_record, func_attributes}
use Rattle.records.specs.Record.{field, field_at, signed16, signed32, bits_of, flag_set}

-- attribute k of a record that has room for `count`; a missing one is 9
unfoldable pub attribute_at : ℕ → ℕ → ℕ → List ℕ → ℕ → ℕ → Answer ℤ
attribute_at fixed k count s at len = cond (leb count k) (refused 9) (signed32 (field_at 4 fixed (fixed + 4 * k) s at len))

-- ---- variables

abbrev pub var_attribute_count : List ℕ → ℕ → ℕ → Answer ℕ
var_attribute_count s at len = map (λ size. (size - size_of var_record) / 4) (map (bits_of 0 16) (field var_record "Info" s at len))

abbrev pub var_attribute_at : ℕ → List ℕ → ℕ → ℕ → Answer ℤ
var_attribute_at k s at len = bind (var_attribute_count s at len) (λ count. attribute_at (size_of var_record) k count s at len)

-- the attribute of that name
abbrev pub var_attribute : String → List ℕ → ℕ → ℕ → Answer ℤ
var_attribute name = var_attribute_at (offset_of var_attributes name / 4)

-- ---- functions

-- bits of FKCCIC (typelib.h counts them from the other end): an array of default values is present, and custom data
abbrev pub has_default_values : ℕ
has_default_values = 0x1000

abbrev pub has_cust_data : ℕ
has_cust_data = 0x80

-- a negative count counts none
abbrev pub at_least_zero : ℤ → ℕ
at_least_zero (pos n) = n
at_least_zero (negsuc n) = 0

abbrev pub argument_count : List ℕ → ℕ → ℕ → Answer ℕ
argument_count s at len = map at_least_zero (signed16 (field func_record "nrargs" s at len))

abbrev pub defaults_present : List ℕ → ℕ → ℕ → Answer Bool
defaults_present s at len = map (flag_set has_default_values) (field func_record "FKCCIC" s at len)

abbrev pub custom_present : List ℕ → ℕ → ℕ → Answer Bool
custom_present s at len = map (flag_set has_cust_data) (field func_record "FKCCIC" s at len)

-- One word a parameter, right before the parameters, which end the record: 9 where there is no such array, no such
-- parameter, or a record shorter than the two arrays.
unfoldable pub default_at : ℕ → ℕ → Bool → List ℕ → ℕ → ℕ → Answer ℤ
default_at index n present s at len =
    cond (leb n index) (refused 9)
    (cond (ltb len ((4 + size_of parameter_info) * n)) (refused 9)
    (cond present (signed32 (field_at 4 (size_of func_record) (len - (4 + size_of parameter_info) * n + 4 * index) s at len))
    (refused 9)))

abbrev pub default_value_offset : ℕ → List ℕ → ℕ → ℕ → Answer ℤ
default_value_offset index s at len =
    bind (defaults_present s at len) (λ present.
    bind (argument_count s at len) (λ n.
    default_at index n present s at len))

-- the words between the fixed part and the default values of a record of that size with n parameters
unfoldable pub attribute_room : ℕ → ℕ → Bool → ℕ
attribute_room size n defaults = (size - size_of func_record - size_of parameter_info * n - cond defaults (4 * n) 0) / 4

abbrev pub func_attribute_count : List ℕ → ℕ → ℕ → Answer ℕ
func_attribute_count s at len =
    bind (map (bits_of 0 16) (field func_record "Info" s at len)) (λ size.
    bind (argument_count s at len) (λ n.
    map (attribute_room size n) (defaults_present s at len)))

abbrev pub func_attribute_at : ℕ → List ℕ → ℕ → ℕ → Answer ℤ
func_attribute_at k s at len = bind (func_attribute_count s at len) (λ count. attribute_at (size_of func_record) k count s at len)

-- the attribute of that name
abbrev pub func_attribute : String → List ℕ → ℕ → ℕ → Answer ℤ
func_attribute name = func_attribute_at (offset_of func_attributes name / 4)

-- "these are controlled by a bit set in the FKCCIC field" (typelib.h): the offsets of custom data
abbrev pub custom_at : ℕ → List ℕ → ℕ → ℕ → Answer ℤ
custom_at k s at len = bind (custom_present s at len) (λ present. cond present (func_attribute_at k s at len) (refused 9))

abbrev pub cust_data_offset : List ℕ → ℕ → ℕ → Answer ℤ
cust_data_offset = custom_at (offset_of func_attributes "oCustData" / 4)

abbrev pub has_arg_cust_data : List ℕ → ℕ → ℕ → Answer Bool
has_arg_cust_data s at len =
    bind (custom_present s at len) (λ present.
    map (λ count. cond present (ltb (offset_of func_attributes "oArgCustData" / 4) count) false) (func_attribute_count s at len))

abbrev pub arg_cust_data_offset : ℕ → List ℕ → ℕ → ℕ → Answer ℤ
arg_cust_data_offset i s at len =
    bind (argument_count s at len) (λ n.
    cond (leb n i) (refused 9) (custom_at (offset_of func_attributes "oArgCustData" / 4 + i) s at len))
